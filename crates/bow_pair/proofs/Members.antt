-- One device: what a boot that is cut, or that ends well, makes of its image.
use Rattle.std.proofs.Common.{◌≡◌, ◌⊎◌, inl, inr, refl, ℕ, ◌<◌, true, false, List, [], ◌∷◌, Option, get_or, sym, ap, ◌∙◌, subst, arith}
use native.Mathlib.Decide.{ℕ_discrete}
use Rattle.std.proofs.lemmas.List.{ext_get_or}
use Rattle.bow_log.specs.Generations.{Generation}
use Rattle.bow_disk.specs.Disk.{IsImage}
use Rattle.bow_chain.specs.Contents.{contents_of, with_block}
use Rattle.bow_chain.specs.Kept.{IsPlain}
use Rattle.bow_chain.specs.Places.{base}
use Rattle.bow_chain.specs.Sound.{IsSound}
use Rattle.bow_chain.proofs.Counting.{same_sound}
use Rattle.bow_flat.specs.Flat.{May}
use Rattle.bow_guard.specs.Standing.{Ahead, IsSoundImage, Shows, forwarded}
use Rattle.bow_restore.specs.Forwarding.{named_by}
use Rattle.bow_restore.proofs.Backs.{passed_holds, plain_unsound}
use Rattle.bow_restore.proofs.Copied.{put_other, put_same}
use Rattle.bow_restore.proofs.Told.{now_put}
use Rattle.vold_commands.specs.Boots.{IsLogged}
use Rattle.vold_commands.specs.BootLaws.{IsCheckpoint, IsInPlace}
use Rattle.bow_pair.specs.Joint.{Member, HasCurrent, HasSaved, HoldsSaved, IsForwardable, IsMember}
use Rattle.bow_pair.specs.Boots.{CutBy, WholeBy}
use Rattle.bow_pair.proofs.Headers.{header_magic, log_header}

module _ (m : Member) (is_member : IsMember m) where
  all : IsCheckpoint m.sizes m.state.used m.state.saved
  all = is_member.checkpoint

  some : 0 < m.sizes.blocks
  some = let valid = all.valid in omega (arith, valid.enough)

  -- ---- rolling back

  in_place_plain : (i : List (List ℕ)) → IsInPlace m.sizes m.state.used m.state.saved i → IsLogged i → ⊥
  in_place_plain i is logged =
      let zeroth : contents_of i 0 ≡ m.state.saved 0 = is 0 some (inl refl) in
      (subst IsPlain (sym zeroth) all.plain) logged

  pub held_cut : (i j : List (List ℕ)) → HoldsSaved m i → CutBy false m.sizes i j → HoldsSaved m j
  held_cut i j held cut = (cut.1, passed_holds m.sizes all.valid m.state.used m.state.saved all.plain i j held.0 cut.0 held.1)

  pub held_back : (i j : List (List ℕ)) → HoldsSaved m i → WholeBy false m.sizes i j → HasSaved m j × HoldsSaved m j
  held_back i j (whole, inr is) (inl (logged, made)) = absurd (in_place_plain i is logged)
  held_back i j (whole, inl k) (inl (logged, made)) = ((back, in_place_plain j back), (made.image, inr back))
    where
      same : (made.log ∷ made.older) ≡ (k.log ∷ k.older)
      same = same_sound m.sizes (contents_of i) made.log k.log made.older k.older made.sound k.sound

      back : IsInPlace m.sizes m.state.used m.state.saved j
      back x here u = made.now x here ∙ ap (λ (logs : List Generation). contents_of i (base logs x)) same ∙ k.kept x here u
  held_back i j (whole, inl k) (inr (plain, is)) = absurd (plain_unsound m.sizes all.valid i whole plain k.log k.older k.sound)
  held_back i j (whole, inr back) (inr (plain, is)) =
      subst (λ (x : List (List ℕ)). HasSaved m x × HoldsSaved m x) (sym is) ((back, plain), (whole, inr back))

  -- ---- an image with the committed data, where no text is kept

  pub current_cut : (i j : List (List ℕ)) → HasCurrent m i → CutBy false m.sizes i j → HasCurrent m j
  current_cut i j has cut =
      let same : j ≡ i = (cut.0).unsound (plain_unsound m.sizes all.valid i has.0 (has.1).plain) in
      subst (HasCurrent m) (sym same) has

  pub current_back : (i j : List (List ℕ)) → HasCurrent m i → WholeBy false m.sizes i j → HasCurrent m j
  current_back i j has (inl (logged, made)) = absurd ((has.1).plain logged)
  current_back i j has (inr (plain, is)) = subst (HasCurrent m) (sym is) has

  -- ---- going forward

  -- a sound image that has the committed data once what its log's current block 0 holds is put into block 0
  record LeadsForward (image : List (List ℕ)) : Type 0 where
    whole : IsImage m.sizes.block_size m.sizes.blocks image
    log : Generation
    older : List Generation
    sound : IsSound m.sizes (contents_of image) log older
    shows : Shows m.sizes m.state.current (forwarded (contents_of image) log)

  leads : (image : List (List ℕ)) → IsImage m.sizes.block_size m.sizes.blocks image → IsSoundImage m.sizes (contents_of image) → Ahead m.sizes m.state (contents_of image) → LeadsForward image
  leads image whole sound ahead = record {
    whole = whole;
    log = sound.0;
    older = sound.1;
    sound = sound.2;
    shows = subst (λ (known : ℕ → Option (List (List ℕ))). Shows m.sizes known (forwarded (contents_of image) sound.0)) is_member.flushed (ahead sound.0 (sound.2).spelled);
  }

  -- what a block 0 names is put there
  put_current : (i j : List (List ℕ)) → (l : LeadsForward i) → IsImage m.sizes.block_size m.sizes.blocks j
      → ((b : ℕ) → b < m.sizes.blocks → contents_of j b ≡ with_block (contents_of i) 0 (named_by m.sizes (contents_of i)) b) → HasCurrent m j
  put_current i j l whole put = (whole, record { plain = subst IsPlain (sym (is 0 some)) (l.shows).plain; each = λ b on. subst (May (m.state.current b)) (sym (is b on)) ((l.shows).each b on) })
    where
      sound_log : named_by m.sizes (contents_of i) ≡ contents_of i (l.log).current
      sound_log = ap (contents_of i) (log_header m.sizes (contents_of i 0) l.log (l.sound).spelled).1

      is : (b : ℕ) → b < m.sizes.blocks → contents_of j b ≡ forwarded (contents_of i) l.log b
      is b on = put b on ∙ ap (λ (v : List ℕ). with_block (contents_of i) 0 v b) sound_log

  pub forward_cut : (i j : List (List ℕ)) → IsForwardable m i → CutBy true m.sizes i j → IsForwardable m j
  forward_cut i j (whole, inl shows) cut = absurd (shows.plain (header_magic m.sizes (contents_of i 0) all.valid (whole.each 0 some) (cut.0).header))
  forward_cut i j (whole, inr (sound, ahead)) cut = by (cut.0).left.head
    where
      l : LeadsForward i
      l = leads i whole sound ahead

      by : (contents_of j 0 ≡ contents_of i 0) ⊎ (contents_of j 0 ≡ named_by m.sizes (contents_of i)) → IsForwardable m j
      by (inl same) =
          let wi = l.whole in
          let wj = cut.1 in
          let one : j ≡ i = ext_get_or [] j i (wj.blocks ∙ sym wi.blocks) (λ b on. elim (ℕ_discrete b 0) [
            | yes zeroth ↦ subst (λ (x : ℕ). get_or j x [] ≡ get_or i x []) (sym zeroth) same
            | no other ↦ ((cut.0).left).others b (omega arith) (omega (arith, wj.blocks))
          ]) in
          subst (IsForwardable m) (sym one) (whole, inr (sound, ahead))
      by (inr put) = let has : HasCurrent m j = (put_current i j l cut.1 (λ b on. elim (ℕ_discrete b 0) [
        | yes zeroth ↦ subst (λ (x : ℕ). contents_of j x ≡ with_block (contents_of i) 0 (named_by m.sizes (contents_of i)) x) (sym zeroth) (put ∙ sym (put_same (contents_of i) 0 (named_by m.sizes (contents_of i))))
        | no other ↦ ((cut.0).left).others b (omega arith) on ∙ sym (put_other (contents_of i) 0 (named_by m.sizes (contents_of i)) b other)
      ])) in (has.0, inl has.1)

  pub forward_whole : (i j : List (List ℕ)) → IsForwardable m i → WholeBy true m.sizes i j → HasCurrent m j
  forward_whole i j (whole, inl shows) (inl (logged, made)) = absurd (shows.plain logged)
  forward_whole i j (whole, inl shows) (inr (plain, is)) = subst (HasCurrent m) (sym is) (whole, shows)
  forward_whole i j (whole, inr (sound, ahead)) (inl (logged, made)) = put_current i j (leads i whole sound ahead) made.image (λ b on. now_put 0 (named_by m.sizes (contents_of i)) i j (omega (arith, whole.blocks, some)) made.now b)
  forward_whole i j (whole, inr (sound, ahead)) (inr (plain, is)) = absurd (plain_unsound m.sizes all.valid i whole plain sound.0 sound.1 sound.2)
