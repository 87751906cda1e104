use Rattle.std.proofs.Common.{rules}
use Rattle.bow_chain.specs.Contents.{contents_of}
use Rattle.bow_chain.specs.Chains.{generations_of}
use Rattle.bow_chain.proofs.Loads.{one_with, few_with, not_sound_with, sound_outside, same_first}
use Rattle.bow_chain.proofs.loading.load.Goals as goal

pub returns-in_err-logs-clause-each_sound : goal.returns-in_err-logs-clause-each_sound
returns-in_err-logs-clause-each_sound g c k is log older sound = let out = sound_outside c.args.geometry (contents_of k.now) c.in_err-logs.field-0.0 log older (c.in_err-logs.ensures.sound k is) sound in search rules

pub returns-in_err-logs-clause-each_fault : goal.returns-in_err-logs-clause-each_fault
returns-in_err-logs-clause-each_fault g c k is first fault = let same = same_first c.args.geometry (contents_of k.now) c.in_err-logs.field-0.0 first (c.in_err-logs.ensures.sound k is) fault in search rules

pub returns-clause-each_sound : goal.returns-clause-each_sound
returns-clause-each_sound g c k is log older sound = one_with c.args.geometry (contents_of k.now) log older (generations_of c.args.geometry c.in_ok-logs.logs.items) (c.in_ok-logs.ensures.sound k is) sound

pub returns-clause-each_fault : goal.returns-clause-each_fault
returns-clause-each_fault g c k is first fault = not_sound_with c.args.geometry (contents_of k.now) first (generations_of c.args.geometry c.in_ok-logs.logs.items) (c.in_ok-logs.ensures.sound k is) fault

pub returns-clause-few : goal.returns-clause-few
returns-clause-few g c k is = few_with c.args.geometry (contents_of k.now) c.requires.valid (generations_of c.args.geometry c.in_ok-logs.logs.items) (c.in_ok-logs.ensures.sound k is)
