-- What each event keeps that a request may bring about, a legal journal keeps.
use Rattle.std.proofs.Common.{◌≡◌, inl, inr, ℕ, List, [], ◌∷◌, refl, sym, ap, subst}
use Rattle.bow_units.specs.declared.requests.Op.{Op}
use Rattle.bow_units.specs.declared.requests.Op.TheVariants as ops
use Rattle.bow_units.specs.declared.requests.Outcome.{Outcome}
use Rattle.bow_units.specs.declared.requests.Outcome.TheVariants as outcomes
use Rattle.bow_units.specs.declared.sizes.Extent.{Extent}
use Rattle.bow_flat.specs.Flat.{Flat, Event, after, Allows}
use Rattle.bow_flat.specs.Flat.Event.{Writes, Fails, Reads, Discards, Flushes, Arms, Prepares, Decides, Commits}
use Rattle.bow_history.specs.declared.items.Item.{Item}
use Rattle.bow_history.specs.declared.items.Item.TheVariants as items
use Rattle.bow_history.specs.Journal.{Buffers, By, ByBoth, CommitRow, DiscardRow, FlushRow, IsGot, IsWrote, ItemStep, Legal, Place, Plan, PrepareRow, ReadRow, Row, WriteRow}

-- the request may bring the event about
abbrev pub IsBy : Op → Event → Type 0
IsBy op (Arms saved) = op ≡ ops.Prepare
IsBy op Prepares = op ≡ ops.Prepare
IsBy op Decides = op ≡ ops.Commit
IsBy op Commits = op ≡ ops.Commit
IsBy op event = Unit {0}

-- Of states this holds, and the events of such requests keep it.
module _ (plan : Plan) (Holds : Flat → Type 0) (Asks : Op → Type 0)
    (keeps : (op : Op) → Asks op → (event : Event) → IsBy op event → (f : Flat) → Allows plan.sizes.blocks event f → Holds f → Holds (after plan.sizes.blocks event f)) where
  same : (f h : Flat) → Holds f → h ≡ f → Holds h
  same f h holds is = subst Holds (sym is) holds

  by_one : (op : Op) → Asks op → (event : Event) → IsBy op event → (f h : Flat) → Holds f → By plan event f h → Holds h
  by_one op asks event of f h holds by = same (after plan.sizes.blocks event f) h (keeps op asks event of f by.0 holds) by.1

  by_both : (op : Op) → Asks op → (first second : Event) → IsBy op first → IsBy op second → (f h : Flat) → Holds f → ByBoth plan first second f h → Holds h
  by_both op asks first second of too f h holds (mid, one, more) = by_one op asks second too mid h (by_one op asks first of f mid holds one) more

  module _ (p : Place) (holds : Holds p.flat) (h : Flat) where
    write_keeps : (e : Extent) (payload : List ℕ) → Asks (ops.Write e payload) → (outcome : Outcome) (k : ℕ) → WriteRow plan p e payload outcome k h → Holds h
    write_keeps e payload asks outcomes.Done k row = same p.flat h holds row.2
    write_keeps e payload asks (outcomes.DiskFault n) k row = by_one (ops.Write e payload) asks (Fails _ _) tt p.flat h holds row.4
    write_keeps e payload asks (outcomes.NoSpace n) k row = same p.flat h holds row.6
    write_keeps e payload asks outcomes.OutOfRange k row = same p.flat h holds row.1
    write_keeps e payload asks outcomes.ReservedMagic k row = same p.flat h holds row.2
    write_keeps e payload asks (outcomes.Unsettled phase) k row = same p.flat h holds row.3
    write_keeps e payload asks outcome k row = absurd row

    read_keeps : (e : Extent) (outcome : Outcome) (k : ℕ) → ReadRow plan p e outcome k h → Holds h
    read_keeps e outcomes.Data k row = same p.flat h holds row.2
    read_keeps e (outcomes.DiskFault n) k row = same p.flat h holds row.3
    read_keeps e outcomes.OutOfRange k row = same p.flat h holds row.1
    read_keeps e outcome k row = absurd row

    discard_keeps : (e : Extent) → Asks (ops.Discard e) → (outcome : Outcome) → DiscardRow plan p e outcome h → Holds h
    discard_keeps e asks outcomes.Done row = by_one (ops.Discard e) asks (Discards e) tt p.flat h holds row.2
    discard_keeps e asks outcomes.OutOfRange row = same p.flat h holds row.1
    discard_keeps e asks (outcomes.Unsettled phase) row = same p.flat h holds row.3
    discard_keeps e asks outcome row = absurd row

    flush_keeps : Asks ops.Flush → (outcome : Outcome) → FlushRow plan p outcome h → Holds h
    flush_keeps asks outcomes.Done row = by_one ops.Flush asks Flushes tt p.flat h holds row.1
    flush_keeps asks (outcomes.DiskFault n) row = same p.flat h holds row.1
    flush_keeps asks (outcomes.Unsettled phase) row = same p.flat h holds row.2
    flush_keeps asks outcome row = absurd row

    prepare_keeps : Asks ops.Prepare → (outcome : Outcome) → PrepareRow plan p outcome h → Holds h
    prepare_keeps asks outcomes.Done (inl (saved, both)) = by_both ops.Prepare asks (Arms saved) Prepares refl refl p.flat h holds both
    prepare_keeps asks outcomes.Done (inr one) = by_one ops.Prepare asks Prepares refl p.flat h holds one
    prepare_keeps asks (outcomes.DiskFault n) (is, phase, inl still) = same p.flat h holds still
    prepare_keeps asks (outcomes.DiskFault n) (is, phase, inr (saved, one)) = by_one ops.Prepare asks (Arms saved) refl p.flat h holds one
    prepare_keeps asks (outcomes.NoSpace n) row = same p.flat h holds row.3
    prepare_keeps asks (outcomes.WrongPhase phase) row = same p.flat h holds row.3
    prepare_keeps asks outcome row = absurd row

    commit_keeps : Asks ops.Commit → (outcome : Outcome) → CommitRow plan p outcome h → Holds h
    commit_keeps asks outcomes.Done (inl both) = by_both ops.Commit asks Decides Commits refl refl p.flat h holds both
    commit_keeps asks outcomes.Done (inr (phase, both)) = by_both ops.Commit asks Flushes Commits tt refl p.flat h holds both
    commit_keeps asks (outcomes.DiskFault n) (is, phase, inl still) = same p.flat h holds still
    commit_keeps asks (outcomes.DiskFault n) (is, phase, inr one) = by_one ops.Commit asks Decides refl p.flat h holds one
    commit_keeps asks (outcomes.WrongPhase phase) row = same p.flat h holds row.3
    commit_keeps asks outcome row = absurd row

    -- an answer keeps it
    pub row_keeps : (op : Op) → Asks op → (outcome : Outcome) (k : ℕ) → Row plan p op outcome k h → Holds h
    row_keeps (ops.Write e payload) asks outcome k row = write_keeps e payload asks outcome k row
    row_keeps (ops.Read e payload) asks outcome k row = read_keeps e outcome k row
    row_keeps (ops.Discard e) asks outcome k row = discard_keeps e asks outcome row
    row_keeps ops.Flush asks outcome k row = flush_keeps asks outcome row
    row_keeps ops.Prepare asks outcome k row = prepare_keeps asks outcome row
    row_keeps ops.Commit asks outcome k row = commit_keeps asks outcome row

  -- a block that was written, or read, keeps it
  pub wrote_keeps : (lane b : ℕ) (op : Op) (p q : Place) → Asks op → Holds p.flat → IsWrote plan lane b op p q → Holds q.flat
  wrote_keeps lane b (ops.Write e payload) p q asks holds wrote = by_one (ops.Write e payload) asks (Writes b _) tt p.flat q.flat holds (tt, ap (λ (x : Place). x.flat) wrote.5)
  wrote_keeps lane b op p q asks holds wrote = absurd wrote

  module _ (buffer : Buffers) where
    pub got_keeps : (lane b : ℕ) (op : Op) (p q : Place) → Asks op → Holds p.flat → IsGot plan buffer lane b op p q → Holds q.flat
    got_keeps lane b (ops.Read e payload) p q asks holds got = by_one (ops.Read e payload) asks (Reads b _) tt p.flat q.flat holds (got.3, ap (λ (x : Place). x.flat) got.4)
    got_keeps lane b op p q asks holds got = absurd got

    module _ (each : (op : Op) → Asks op) where
      item_keeps : (item : Item) (p q : Place) → Holds p.flat → ItemStep plan buffer item p q → Holds q.flat
      item_keeps (items.Wrote lane n b) p q holds (is, op, next, wrote) = wrote_keeps lane b op p q (each op) holds wrote
      item_keeps (items.Got lane n b) p q holds (is, op, next, got) = got_keeps lane b op p q (each op) holds got
      item_keeps (items.Answered lane n outcome) p q holds (is, op, next, flat, row, to) =
          subst (λ (x : Place). Holds x.flat) (sym to) (row_keeps p holds flat op (each op) outcome (p.done lane) row)

      -- where the events of all requests keep it, a legal journal does
      pub legal_keeps : (journal : List Item) (p q : Place) → Holds p.flat → Legal plan buffer journal p q → Holds q.flat
      legal_keeps [] p q holds is = same p.flat q.flat holds (ap (λ (x : Place). x.flat) is)
      legal_keeps (item ∷ journal) p q holds (mid, step, rest) = legal_keeps journal mid q (item_keeps item p mid holds step) rest
