-- The cuts of a play over a real disk are promised.
use Rattle.std.proofs.Common.{◌≡◌, inl, ℕ, suc, ◌+◌, ◌≤◌, List, length, take, drop, Option, Some, None, arith, refl, sym, subst}
use Rattle.std.proofs.Math.Seq.{drop-length, take-length}
use Rattle.std.specs.Prelude.{slice_index_or}
use Rattle.bow_units.specs.declared.sizes.Geometry.{Geometry}
use Rattle.bow_disk.specs.Disk.{Content, IsCrash, IsImage}
use Rattle.bow_core.specs.Standing.{StandsOver}
use Rattle.bow_flat.specs.Flat.{opening}
use Rattle.bow_history.specs.declared.items.Item.{Item}
use Rattle.bow_history.specs.Journal.{Plan, Buffers, Place, Legal, beginning}
use Rattle.bow_session.specs.Sessions.{Run}
use Rattle.bow_play.specs.Leading.{CanLeave}
use Rattle.bow_promise.specs.Cutting.{IsCutOf}
use Rattle.bow_promise.specs.Played.{IsPlayed, play_of, PlaysArePromised}
use Rattle.bow_promise.proofs.Fulfilled.{cuts_are_promised}

module _ {D : Type 0} (stated : D → Option Geometry) (content : D → Option Content) (moment : D → ℕ) (left : D → ℕ → List (List ℕ) → Type 0)
    (cuts_shaped : (d : D) (c : Content) → content d ≡ Some c → (g : Geometry) → stated d ≡ Some g → (t : ℕ) (image : List (List ℕ)) → left d t image → IsImage g.block_size g.blocks image)
    (counts_now : (d : D) (c : Content) → content d ≡ Some c → (t : ℕ) (image : List (List ℕ)) → t ≤ moment d → IsCrash c.candidates image → left d t image) where
  module _ (old : D) (c : Content) (s : Run D) (k : IsPlayed stated content moment left old c s) where
    -- what a cut leaves is an image
    whole : (since : ℕ) (cut : List (List ℕ)) → left s.core.disk since cut → IsImage s.core.geometry.block_size s.core.geometry.blocks cut
    whole since cut since_left = by (content s.core.disk) refl (k.leads).stands
      where
        by : (o : Option Content) → content s.core.disk ≡ o → StandsOver s.core.geometry s.core.memory o ((k.leads).end).flat → IsImage s.core.geometry.block_size s.core.geometry.blocks cut
        by None at none = absurd none
        by (Some e) at standing = cuts_shaped s.core.disk e at s.core.geometry k.sizes since cut since_left

    -- what a cut may leave now, it may leave since the last moment
    left_now : (cut : List (List ℕ)) → CanLeave (content s.core.disk) cut → left s.core.disk (moment s.core.disk) cut
    left_now cut can = by (content s.core.disk) refl can
      where
        by : (o : Option Content) → content s.core.disk ≡ o → CanLeave o cut → left s.core.disk (moment s.core.disk) cut
        by None at none = absurd none
        by (Some e) at crash = counts_now s.core.disk e at (moment s.core.disk) cut (omega arith) crash

    whole_front : (plan : Plan) (read : Buffers) (journal : List Item) (p q : Place) → Legal plan read journal p q → Legal plan read (take (length journal) journal) p q × Legal plan read (drop (length journal) journal) q q
    whole_front plan read journal p q legal = (
      subst (λ items. Legal plan read items p q) (sym (take-length journal)) legal,
      subst (λ items. Legal plan read items q q) (sym (drop-length journal)) refl,
    )

    all_items : (cut : List (List ℕ)) → CanLeave (content s.core.disk) cut → IsCutOf (play_of c.now s (k.leads).end) (length s.journal) cut
    all_items cut can =
        let p = play_of c.now s (k.leads).end in
        let both = whole_front p.plan p.read s.journal (beginning (opening c.now)) p.end (k.leads).legal in
        record {
          sizes = k.valid;
          plain = k.plain;
          whole = whole (moment s.core.disk) cut (left_now cut can);
          way = record {
            front = length s.journal;
            has = omega arith;
            within = omega arith;
            place = p.end;
            before = both.0;
            after = both.1;
            flat = p.end.flat;
            midway = inl refl;
            stands = (k.leads).now cut can;
          };
        }

  pub plays_are_promised : PlaysArePromised stated content moment left
  plays_are_promised old c s k = record {
    ever = λ on cut since_left. cuts_are_promised (play_of c.now s (k.leads).end) 0 cut (record {
      sizes = k.valid;
      plain = k.plain;
      whole = whole old c s k (moment old) cut since_left;
      way = (k.leads).settled on cut since_left;
    });
    item = λ i below low cut since_left. cuts_are_promised (play_of c.now s (k.leads).end) (suc i) cut (record {
      sizes = k.valid;
      plain = k.plain;
      whole = whole old c s k (moment old + slice_index_or s.moments i 0) cut since_left;
      way = (k.leads).item i cut below low since_left;
    });
    now = λ cut can. cuts_are_promised (play_of c.now s (k.leads).end) (length s.journal) cut (all_items old c s k cut can);
  }
