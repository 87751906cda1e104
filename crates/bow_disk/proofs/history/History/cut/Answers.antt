use Rattle.std.proofs.Common.{◌≡◌, ℕ, ◌+◌, ◌-◌, ◌*◌, ◌<◌, List, length, get_or, take, drop, refl, sym, ap, ◌∙◌, subst, arith, length-drop}
use Rattle.std.specs.List.{All}
use Rattle.std.proofs.lemmas.List.{length-set, length-take-le}
use Rattle.bow_disk.specs.declared.history.Mark.{Mark}
use Rattle.bow_disk.specs.declared.cuts.Pick.{Pick}
use Rattle.bow_disk.specs.Cuts.{choices}
use Rattle.bow_disk.specs.Picking.{last_number, next_number, with_picked}
use Rattle.bow_disk.proofs.Blocks.{block_end}
use Rattle.bow_disk.proofs.Picks.{length-choices, still_taken, still_small, long_now, cut_done}
use Rattle.bow_disk.proofs.history.History.cut.Goals as goal

-- the block of a write is on the device
on_device : (n i : ℕ) (marks : List Mark) (m : Mark) → All (λ x. x.block < n) marks → i < length marks → m ≡ get_or marks i m → m.block < n
on_device n i marks m all within is = subst (λ (x : Mark). x.block < n) (sym is) (all i m within)

-- its value is as long as a block
value_long : (size count i : ℕ) (values v : List ℕ) → i < count → length values ≡ count * size → v ≡ take size (drop (i * size) values) → length v ≡ size
value_long size count i values v within long is = ap length is ∙ length-take-le size (drop (i * size) values) (omega (arith, length-drop (i * size) values, block_end size count i within))

-- how it is cut out
value_cut : (size i : ℕ) (given values : List ℕ) → given ≡ values → take (i * size + size - i * size) (drop (i * size) given) ≡ take size (drop (i * size) values)
value_cut size i given values is =
    let num : i * size + size - i * size ≡ size = omega arith in
    ap (λ l. take (i * size + size - i * size) (drop (i * size) l)) is ∙ ap (λ k. take k (drop (i * size) values)) num

-- as many are picked as there are blocks
picks_long : (n : ℕ) (pick : Pick) (lasts picks given : List ℕ) → given ≡ picks → picks ≡ choices pick lasts → length lasts ≡ n → length given ≡ n
picks_long n pick lasts picks given same is long = ap length (same ∙ is) ∙ length-choices pick lasts ∙ long

module _ (c : goal.After-take_in-arg-1) where
  long_picks : length c.deref-in-loop-write-2.result.now ≡ c.self.inside.geometry.blocks
  long_picks = picks_long c.self.inside.geometry.blocks c.args.pick c.in_ok-picks.picks.items c.choose_each.new.lasts.items c.deref-in-loop-write-2.result.now c.deref-in-loop-write-2.ensures.value c.choose_each.ensures c.in_ok-picks.ensures.long

  within : c.loop-write.write < length c.self.inside.marks.items
  within = omega arith

  on : c.index.result.now.block < c.self.inside.geometry.blocks
  on = on_device c.self.inside.geometry.blocks c.loop-write.write c.self.inside.marks.items c.index.result.now c.self.invariant.on within c.index.ensures

pub take_in-requires-clause-on : goal.take_in-requires-clause-on
take_in-requires-clause-on c = omega (arith, on c, long_picks c)

pub take_in-requires-clause-counted : goal.take_in-requires-clause-counted
take_in-requires-clause-counted c = c.loop-write.invariant.numbered ∙ sym (long_picks c)

pub take_in-requires-clause-whole : goal.take_in-requires-clause-whole
take_in-requires-clause-whole c =
    let h = c.self.inside in
    let size = h.geometry.block_size in
    let i = c.loop-write.write in
    let v = take (i * size + size - i * size) (drop (i * size) c.deref-in-loop-write.result.now) in
    let long : length v ≡ size = value_long size (length h.marks.items) i h.values.items v (within c) c.self.invariant.values_len (value_cut size i c.deref-in-loop-write.result.now h.values.items c.deref-in-loop-write.ensures.value) in
    c.loop-write.invariant.long ∙ ap (λ k. k * size) (sym (long_picks c)) ∙ ap (λ k. length c.deref-in-loop-write-2.result.now * k) (sym long)

pub loop-write-preserved : goal.loop-write-preserved
loop-write-preserved c =
    let h = c.self.inside in
    let size = h.geometry.block_size in
    let n = h.geometry.blocks in
    let i = c.loop-write.write in
    let inv = c.loop-write.invariant in
    let m = c.index.result.now in
    let v = take (i * size + size - i * size) (drop (i * size) c.deref-in-loop-write.result.now) in
    let within : i < length h.marks.items = omega arith in
    let is_v : v ≡ take size (drop (i * size) h.values.items) = value_cut size i c.deref-in-loop-write.result.now h.values.items c.deref-in-loop-write.ensures.value in
    let sized : length v ≡ size = value_long size (length h.marks.items) i h.values.items v within c.self.invariant.values_len is_v in
    let on : m.block < n = on_device n i h.marks.items m c.self.invariant.on within c.index.ensures in
    let next = next_number m.flushed (get_or c.loop-write.numbers.items m.block 0) in
    let image = c.take_in.ensures.image ∙ ap (λ l. with_picked (get_or l m.block 0) next m.block v c.loop-write.image.items) c.deref-in-loop-write-2.ensures.value in
    record {
      long = long_now size n i h.marks.items h.values.items c.choose_each.new.lasts.items c.loop-write.numbers.items c.loop-write.image.items c.take_in.new.numbers.items c.take_in.new.image.items v m within c.index.ensures is_v on inv.numbered inv.long sized c.take_in.ensures.numbers image;
      numbered = ap length c.take_in.ensures.numbers ∙ length-set c.loop-write.numbers.items m.block next ∙ inv.numbered;
      small = still_small n i m.block (get_or c.loop-write.numbers.items m.block 0) m.flushed c.loop-write.numbers.items c.take_in.new.numbers.items inv.numbered on refl c.take_in.ensures.numbers inv.small;
      rest = λ b here. still_taken size n i h.marks.items h.values.items c.choose_each.new.lasts.items c.loop-write.numbers.items c.loop-write.image.items c.take_in.new.numbers.items c.take_in.new.image.items v m within c.index.ensures is_v on inv.numbered inv.long sized c.take_in.ensures.numbers image b
          ∙ inv.rest b here;
    }

pub returns : goal.returns
returns c =
    let h = c.self.inside in
    let inv = c.loop-write.invariant in
    rw (← c.self.view_is) (cut_done h.geometry h.first.items h.values.items c.loop-write.image.items h.marks.items c.args.pick c.in_ok-picks.picks.items c.choose_each.new.lasts.items c.loop-write.numbers.items c.loop-write.write
    (omega arith) inv.long c.in_ok-picks.ensures.long c.choose_each.ensures (λ b on. c.in_ok-picks.ensures.each b on ∙ ap (last_number b 0) c.deref.ensures.value) inv.rest)
