use Rattle.bow_tags.proofs.LawsHold.{held_once, never_again, given_once, got_was_given}
use Rattle.bow_tags.proofs.laws.rule_laws.Goals as goal

pub returns-clause-held_once : goal.returns-clause-held_once
returns-clause-held_once g c s r = held_once g.P.Fits.fits s r

pub returns-clause-never_again : goal.returns-clause-never_again
returns-clause-never_again g c s r = never_again g.P.Fits.fits s r

pub returns-clause-given_once : goal.returns-clause-given_once
returns-clause-given_once g c s r = given_once g.P.Fits.fits s r

pub returns-clause-got_was_given : goal.returns-clause-got_was_given
returns-clause-got_was_given g c s r = got_was_given g.P.Fits.fits s r
