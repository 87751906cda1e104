use Rattle.std.proofs.Common.{ℕ, ◌≡◌, ◌-◌, List, Some, drop, map, slice_index_or, arith, refl, sym, ap, ◌∙◌, subst}
use Rattle.bow_log.specs.declared.entries.Entry.{Entry}
use Rattle.bow_log.specs.Spelling.{Fields}
use Rattle.bow_log.specs.Generations.{backup_of}
use Rattle.bow_disk.specs.Disk.{Content}
use Rattle.bow_chain.specs.Contents.{contents_of, run_of}
use Rattle.bow_chain.specs.Places.{pass, base}
use Rattle.bow_chain.specs.Tables.{place_in, Follows}
use Rattle.bow_chain.specs.Sound.{sum_at, SumsHold}
use Rattle.bow_chain.specs.Chains.{IsEntry, generations_of}
use Rattle.bow_chain.specs.Faults.{IsLastBadSum}
use Rattle.bow_chain.proofs.Quiet.{quiet_then}
use Rattle.bow_chain.proofs.Sectors.{entry_in}
use Rattle.bow_chain.proofs.LastSum.{entries_from, holds_here, bad_here, sum_first}
use Rattle.bow_chain.proofs.Tables.{follows_on, sum_along}
use Rattle.bow_chain.proofs.sums.test_sums.Given.{Over}
use Rattle.bow_chain.proofs.sums.test_sums.Goals as goal
use Rattle.bow_chain.proofs.sums.test_sums.Goals.{After-found_sum}

abbrev no_entry : Entry
no_entry = record { source = 0; dest = 0; size = 0; sum = 0 }

pub found_sum-requires-clause-entry : goal.found_sum-requires-clause-entry
found_sum-requires-clause-entry g c =
    let same : c.deref-entries.result.now ≡ c.args.log.now.entries = c.deref-entries.ensures.0 ∙ ap (λ (l : Fields). l.entries) c.log.view_is in
    entry_in c.args.geometry c.args.log.now c.deref-entries.result.now (c.loop-index.index - 1) no_entry same c.requires.log (omega arith)

module _ (g : Over) where
  same : (c : After-found_sum g) → c.deref-entries.result.now ≡ c.args.log.now.entries
  same c = c.deref-entries.ensures.0 ∙ ap (λ (l : Fields). l.entries) c.log.view_is

  entry : (c : After-found_sum g) → IsEntry c.args.geometry (slice_index_or c.deref-entries.result.now (c.loop-index.index - 1) no_entry)
  entry c = entry_in c.args.geometry c.args.log.now c.deref-entries.result.now (c.loop-index.index - 1) no_entry (same c) c.requires.log (omega arith)

  follows : (c : After-found_sum g) → Follows c.args.geometry (λ x. base (generations_of c.args.geometry c.args.above.now) (pass (map (backup_of c.args.geometry) (drop c.loop-index.index c.deref-entries.result.now)) x)) c.loop-index.places
  follows c =
      subst (λ (l : List Entry). Follows c.args.geometry (λ x. base (generations_of c.args.geometry c.args.above.now) (pass (map (backup_of c.args.geometry) (drop c.loop-index.index l)) x)) c.loop-index.places)
      (sym (same c)) c.loop-index.invariant.follows

  hold : (c : After-found_sum g) (k : Content) → g.D.Disk.content c.args.disk.now ≡ Some k → SumsHold (contents_of k.now) (base (generations_of c.args.geometry c.args.above.now)) (map (backup_of c.args.geometry) (drop c.loop-index.index c.deref-entries.result.now))
  hold c k is =
      subst (λ (l : List Entry). SumsHold (contents_of k.now) (base (generations_of c.args.geometry c.args.above.now)) (map (backup_of c.args.geometry) (drop c.loop-index.index l))) (sym (same c)) (c.loop-index.invariant.so_far k is)

  -- the sum that was found is the one of the image at entry
  sum_is : (c : After-found_sum g) (found : ℕ)
      → (let b = backup_of c.args.geometry (slice_index_or c.deref-entries.result.now (c.loop-index.index - 1) no_entry) in
      (d : Content) → g.D.Disk.content c.loop-index.disk ≡ Some d → found ≡ sum_at b.source (run_of (λ x. contents_of d.now (place_in c.loop-index.places x)) b.dest b.count))
      → (k : Content) → g.D.Disk.content c.args.disk.now ≡ Some k
      → (let b = backup_of c.args.geometry (slice_index_or c.deref-entries.result.now (c.loop-index.index - 1) no_entry) in
      found ≡ sum_at b.source (run_of (λ x. contents_of k.now (base (generations_of c.args.geometry c.args.above.now) (pass (map (backup_of c.args.geometry) (drop c.loop-index.index c.deref-entries.result.now)) x))) b.dest b.count))
  sum_is c found sum k is =
      let b = backup_of c.args.geometry (slice_index_or c.deref-entries.result.now (c.loop-index.index - 1) no_entry) in
      sum_first (g.D.Disk.content c.args.disk.now) (g.D.Disk.content c.loop-index.disk) (place_in c.loop-index.places) (λ x. x) b found c.loop-index.invariant.quiet.step sum k is
      ∙ sum_along c.args.geometry b (contents_of k.now) (λ x. base (generations_of c.args.geometry c.args.above.now) (pass (map (backup_of c.args.geometry) (drop c.loop-index.index c.deref-entries.result.now)) x)) c.loop-index.places (entry c).backup (follows c)

pub take_in-requires-clause-entry : goal.take_in-requires-clause-entry
take_in-requires-clause-entry g c = entry g (goal.at.take_in-requires-clause-entry g c).After-found_sum

pub returns-then-found-entry-clause-sums : goal.returns-then-found-entry-clause-sums
returns-then-found-entry-clause-sums g c k is =
    let q = (goal.at.returns-then-found-entry-clause-sums g c).After-found_sum in
    let es = c.deref-entries.result.now in
    let i = c.loop-index.index in
    let e = slice_index_or es (i - 1) no_entry in
    let route = base (generations_of c.args.geometry c.args.above.now) in (
      refl,
      subst (λ (l : List Entry). IsLastBadSum (contents_of k.now) route (map (backup_of c.args.geometry) l) (i - 1) c.in_ok-found.found e.sum) (same g q)
          (bad_here c.args.geometry (contents_of k.now) route es i no_entry e (omega arith) (omega arith) refl (drop i es) c.in_ok-found.found refl (hold g q k is) (sum_is g q c.in_ok-found.found c.in_ok-found.ensures.sum k is) c.if-found-entry.true),
    )

pub loop-index-preserved : goal.loop-index-preserved
loop-index-preserved g c =
    let q = (goal.at.loop-index-preserved g c).After-found_sum in
    let es = c.deref-entries.result.now in
    let i = c.loop-index.index in
    let e = slice_index_or es (i - 1) no_entry in
    let route = base (generations_of c.args.geometry c.args.above.now) in
    record {
      table = c.take_in.ensures.table;
      follows =
          (let on = follows_on c.args.geometry (backup_of c.args.geometry e) (λ x. route (pass (map (backup_of c.args.geometry) (drop i es)) x)) c.loop-index.places c.take_in.new.places (entry g q).backup (follows g q) c.take_in.ensures.moved in
          subst (λ (l : List Entry). Follows c.args.geometry (λ x. route (pass (map (backup_of c.args.geometry) l) x)) c.take_in.new.places) (sym (entries_from es i no_entry e (omega arith) (omega arith) refl) ∙ ap (drop (i - 1)) (same g q)) on);
      so_far = λ k is.
          subst (λ (l : List Entry). SumsHold (contents_of k.now) route (map (backup_of c.args.geometry) (drop (i - 1) l))) (same g q)
          (holds_here c.args.geometry (contents_of k.now) route es i no_entry e (omega arith) (omega arith) refl (drop i es) c.in_ok-found.found refl (hold g q k is) (sum_is g q c.in_ok-found.found c.in_ok-found.ensures.sum k is) c.if-found-entry.false);
      quiet = quiet_then c.args.geometry _ _ _ _ _ _ _ _ c.loop-index.invariant.quiet c.found_sum.ensures.sizes c.found_sum.ensures.step c.found_sum.ensures.time c.found_sum.ensures.cause.later;
    }
