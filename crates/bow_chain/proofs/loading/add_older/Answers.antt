use Rattle.std.proofs.Common.{◌≡◌, ◌+◌, ◌-◌, ◌++◌, ◌∷◌, [], List, length, length-append, sym, ap, subst, ◌∙◌, arith}
use Rattle.std.proofs.lemmas.List.{map-append}
use Rattle.std.specs.List.{AllByRecursion as Each}
use Rattle.bow_log.specs.Spelling.{Fields}
use Rattle.bow_log.specs.Generations.{generation_of}
use Rattle.bow_log.specs.Rules.{IsLog}
use Rattle.bow_chain.specs.Contents.{contents_of}
use Rattle.bow_chain.specs.Places.{base}
use Rattle.bow_chain.specs.Tables.{Follows}
use Rattle.bow_chain.specs.Chains.{AreNumbered, generations_of}
use Rattle.bow_chain.specs.Faults.{AreAbove}
use Rattle.bow_chain.proofs.Quiet.{quiet_then, as_first}
use Rattle.bow_chain.proofs.Sectors.{logs_push, numbered_push}
use Rattle.bow_chain.proofs.loading.add_older.Goals as goal

pub loop-wanted-preserved : goal.loop-wanted-preserved
loop-wanted-preserved g c =
    let i = c.loop-wanted.invariant in
    let log = c.in_ok-log.log in
    let items : c.push.new.self.items ≡ c.loop-wanted.logs.items ++ log ∷ [] = c.in_ok-push.ensures.items in
    let long : length c.push.new.self.items ≡ length c.loop-wanted.logs.items + 1 = ap length items ∙ length-append c.loop-wanted.logs.items (log ∷ []) in
    let is_log : IsLog c.args.geometry log = c.in_ok-log.ensures.log in
    let joined : generations_of c.args.geometry c.push.new.self.items ≡ generations_of c.args.geometry c.deref.result.now ++ generation_of c.args.geometry log ∷ [] =
    ap (generations_of c.args.geometry) items ∙ map-append (generation_of c.args.geometry) c.loop-wanted.logs.items (log ∷ []) ∙ ap (λ (ls : List Fields). generations_of c.args.geometry ls ++ generation_of c.args.geometry log ∷ []) (sym c.deref.ensures.value) in
    record {
      logs = subst (Each (IsLog c.args.geometry)) (sym items) (logs_push c.args.geometry c.loop-wanted.logs.items log i.logs is_log);
      numbered = subst (λ (ls : List Fields). AreNumbered ls (c.loop-wanted.wanted - 1)) (sym items) (numbered_push c.loop-wanted.logs.items log (c.loop-wanted.wanted - 1) (subst (AreNumbered c.loop-wanted.logs.items) (omega arith) i.numbered) c.in_ok-log.ensures.sequence);
      some = omega (arith, long);
      deep = omega (arith, long, i.deep);
      table = c.in_ok-log.ensures.table;
      follows = subst (λ gens. Follows c.args.geometry (base gens) c.older_log.new.places) (sym joined) c.in_ok-log.ensures.follows;
      tested = λ k is start.
          let image = contents_of k.now in
          let left = c.loop-wanted.wanted - 1 in
          let here : left + 1 ≡ c.loop-wanted.wanted = omega arith in
          let on = as_first (λ blocks. AreAbove c.args.geometry (contents_of blocks) (generations_of c.args.geometry c.deref.result.now) (left + 1) → AreAbove c.args.geometry (contents_of blocks) (generations_of c.args.geometry c.deref.result.now ++ generation_of c.args.geometry log ∷ []) left)
          (g.D.Disk.content c.args.disk.now) (g.D.Disk.content c.loop-wanted.disk) i.quiet.step c.in_ok-log.ensures.tests k is in
          let before : AreAbove c.args.geometry image (generations_of c.args.geometry c.deref.result.now) (left + 1) =
          subst (λ (ls : List Fields). AreAbove c.args.geometry image (generations_of c.args.geometry ls) (left + 1)) (sym c.deref.ensures.value) (subst (λ n. AreAbove c.args.geometry image (generations_of c.args.geometry c.loop-wanted.logs.items) n) (sym here) (i.tested k is start)) in
          subst (λ gens. AreAbove c.args.geometry image gens left) (sym joined) (on before);
      quiet = quiet_then c.args.geometry _ _ _ _ _ _ _ _ i.quiet c.older_log.ensures.sizes c.older_log.ensures.step c.older_log.ensures.time c.older_log.ensures.faults;
    }

pub returns-in_err-push-clause-time : goal.returns-in_err-push-clause-time
returns-in_err-push-clause-time g c =
    (quiet_then c.args.geometry _ _ _ _ _ _ _ _ c.loop-wanted.invariant.quiet c.older_log.ensures.sizes c.older_log.ensures.step c.older_log.ensures.time c.older_log.ensures.faults).time
