-- Devices that are opened one after the other.
use Rattle.std.proofs.Common.{◌≡◌, inr, ℕ, suc, ◌-◌, List, [], ◌∷◌, ◌++◌, Option, Some, map, length, drop, refl, sym, ap, ◌∙◌, subst, arith, length-append}
use Rattle.std.specs.Prelude.{slice_get}
use Rattle.std.proofs.lemmas.List.{length-map}
use Rattle.bow_units.specs.declared.sizes.Geometry.{Geometry}
use Rattle.bow_disk.specs.Disk.{Content}
use Rattle.bow_history.specs.Legality.{StartsUntouched}
use Rattle.bow_machine.specs.Laws.{opened}
use Rattle.bow_machine.specs.Memory.{Memory}
use Rattle.bow_core.specs.Openings.{KeepsImage}
use Rattle.bow_core.specs.Views.{View}
use Rattle.bow_session.proofs.Loads.{pushed}
use Rattle.bow_pair.specs.Joining.{AreOpenedOver, JoinsNot, OpenedOver, OpensNext, StopsAfter}
use Rattle.bow_pair.specs.Pairs.{AreReady, IsReady}
use Rattle.bow_pair.specs.declared.joining.PairFault.{PairFault}
use Rattle.bow_pair.proofs.Rows.{drop_first, drop_next, get_before, get_behind, get_dropped, there_too}
use Rattle.bow_pair.proofs.Sessions.{mapped}
use Rattle.bow_pair.proofs.Stages.{some_is}

-- a device that was just opened
pub fresh_is_ready : {D : Type 0} (v : View D) → v.memory ≡ opened v.geometry.blocks → v.places ≡ 16 → v.admitted ≡ 0 → IsReady 0 v
fresh_is_ready v memory places admitted = record {
  idle = ap (λ (m : Memory). m.requests) memory;
  places = places;
  admitted = omega (arith, admitted);
  anew = λ plan sizes. subst (λ (m : Memory). StartsUntouched plan m m.phase m.log) (sym memory) tt;
}

module _ {D : Type 0} (stated : D → Option Geometry) (content : D → Option Content) (moment : D → ℕ) (left : D → ℕ → List (List ℕ) → Type 0) (faults : D → ℕ) where
  abbrev Opened : List D → List D → List (View D) → Type 0
  Opened disks rest cores = AreOpenedOver stated content moment left faults disks rest cores

  -- before the first
  pub none_opened : (disks : List D) (cores : List (View D)) → cores ≡ [] → Opened disks disks cores
  none_opened disks cores none = subst (λ (l : List (View D)). Opened disks disks l) (sym none) (record {
    split = refl;
    within = omega arith;
    each = λ k d v was is. absurd (grind (arith, is));
  })

  -- one more
  pub one_more_opened : (disks rest less : List D) (cores more : List (View D)) → Opened disks rest cores → OpensNext stated content moment left faults rest less cores more → Opened disks less more
  one_more_opened disks rest less cores more so next =
      let long : length more ≡ suc (length cores) = ap (λ (l : List (View D)). length l) next.added ∙ (let more_long = length-append cores (next.core ∷ []) in omega (arith, more_long)) in
      let front = so.split ∙ next.taken in
      record {
        split = ap (λ n. drop n disks) long ∙ drop_next disks less (length cores) next.disk front;
        within = let many = so.within in let taken = ap (λ (l : List D). length l) next.taken in omega (arith, many, taken, long);
        each = λ k d v was is. pushed (λ i x. (e : D) → slice_get disks i ≡ Some e → OpenedOver stated content moment left faults e x) cores next.core (λ i x at e there. so.each i e x there at)
            (λ e there. subst (λ (y : D). OpenedOver stated content moment left faults y next.core) (some_is next.disk e (sym (drop_first disks less (length cores) next.disk front) ∙ there)) next.opened)
            k v (ap (λ (l : List (View D)). slice_get l k) (sym next.added) ∙ is) d was;
      }

  -- each is ready
  pub ready_opened : (disks : List D) (cores : List (View D)) → Opened disks [] cores → AreReady 0 cores
  ready_opened disks cores so k v at =
      let long : length disks ≡ length cores = let many = so.within in omega (arith, many) in
      let d = there_too cores disks k v long at in
      (so.each k d.0 v d.1 at).ready

  -- where it stops, and all disks are handed back
  pub stops_so : (disks rest new : List D) (cores : List (View D)) (refused : D) (fault : PairFault) → StopsAfter stated content moment left faults disks rest cores refused fault
      → new ≡ map (λ (v : View D). v.disk) cores ++ refused ∷ rest → JoinsNot stated content moment left faults disks new fault
  stops_so disks rest new cores refused fault s is =
      let fronts = map (λ (v : View D). v.disk) cores in
      let long : length fronts ≡ length cores = length-map cores (λ (v : View D). v.disk) in
      let at_here : slice_get new (length cores) ≡ Some refused =
      ap (λ (l : List D). slice_get l (length cores)) is ∙ get_behind fronts (refused ∷ rest) (length cores) (omega (arith, long))
      ∙ (let none : length cores - length fronts ≡ 0 = omega (arith, long) in ap (λ n. slice_get (refused ∷ rest) n) none) in
      let front = s.opened.split ∙ s.fails.taken in
      inr (
        length cores,
        s.why,
        s.told,
        record {
          before = λ k d e below was there.
              let own = mapped (λ (v : View D). v.disk) cores k e (sym (get_before fronts (refused ∷ rest) k (omega (arith, below, long))) ∙ ap (λ (l : List D). slice_get l k) (sym is) ∙ there) in
              let o = s.opened.each k d own.0 was own.1 in
              (subst (λ (y : D). KeepsImage stated content moment left faults d y) own.2 o.kept, o.plain);
          here = (s.fails.disk, refused, drop_first disks rest (length cores) s.fails.disk front, at_here, s.fails.kept, s.fails.cause);
          behind = λ k above.
              let same : k - length fronts ≡ suc (k - suc (length cores)) = omega (arith, above, long) in
              ap (λ (l : List D). slice_get l k) is ∙ get_behind fronts (refused ∷ rest) k (omega (arith, above, long)) ∙ ap (λ n. slice_get (refused ∷ rest) n) same
              ∙ ap (λ (l : List D). slice_get l (k - suc (length cores))) (sym (drop_next disks rest (length cores) s.fails.disk front)) ∙ sym (get_dropped disks (suc (length cores)) k (omega (arith, above)));
        },
      )
