-- Calls of a disk that tells its content, one after the other, and what cuts leave of them.
use Rattle.std.proofs.Common.{ℕ, ◌≤◌, ◌≡◌, List, Option, None, Some, arith, refl, subst, ◌⊎◌, inl, inr, ⊎_elim}
use Rattle.bow_disk.specs.Disk.{Content, Goes, Same, TimeGoes, IsCrash}
use Rattle.bow_disk.specs.Moments.{AddsCuts, AddsNoCut, Tells}

-- what is told is one content
pub some_same : (c d : Content) → Some c ≡ Some d → c ≡ d
some_same c d e = cc

module _ {T : Type 0} (content : T → Option Content) where
  -- a step leads from what was told to what is told
  pub goes_told : (step : Content → Content → Type 0) (a b : T) (c : Content) → content a ≡ Some c → Goes step (content a) (content b) → Tells content (step c) b
  goes_told step a b c is goes = go (content a) (content b) refl is goes
    where
      go : (o p : Option Content) → content b ≡ p → o ≡ Some c → Goes step o p → Tells content (step c) b
      go None p at none goes = absurd cc
      go (Some o) None at some goes = absurd goes
      go (Some o) (Some d) at some goes = record { told = d; is = at; holds = subst (λ x. step x d) (some_same o c some) goes }

  -- of what is told, more is said
  pub tells_map : (P Q : Content → Type 0) (a : T) → ((c : Content) → content a ≡ Some c → P c → Q c) → Tells content P a → Tells content Q a
  tells_map P Q a f t = record { told = t.told; is = t.is; holds = f t.told t.is t.holds }

  module _ (moment : T → ℕ) (since : T → ℕ → List (List ℕ) → Type 0) where
    -- nothing is done
    pub adds_none : (P : List (List ℕ) → Type 0) (a : T) → AddsCuts moment since P a a
    adds_none P a = record { time = omega arith; only = λ t image le left. inl left; keeps = λ t image le left. left }

    -- of the cuts that are added, more is said
    pub adds_map : (P Q : List (List ℕ) → Type 0) (a b : T) → ((image : List (List ℕ)) → P image → Q image) → AddsCuts moment since P a b → AddsCuts moment since Q a b
    adds_map P Q a b f l = record { time = l.time; only = λ t image le left. ⊎_elim (λ x. inl x) (λ x. inr (f image x)) (l.only t image le left); keeps = l.keeps }

    -- one after the other
    pub adds_then : (P : List (List ℕ) → Type 0) (a b d : T) → AddsCuts moment since P a b → AddsCuts moment since P b d → AddsCuts moment since P a d
    adds_then P a b d k l = record {
      time = omega (arith, k.time, l.time);
      only = λ t image le left. ⊎_elim (λ x. k.only t image le x) (λ x. inr x) (l.only t image (omega (arith, k.time)) left);
      keeps = λ t image le left. l.keeps t image (omega (arith, k.time)) (k.keeps t image le left);
    }

    -- one call, of whose crash images something is said; or they might have been left before
    pub adds_told : (P : List (List ℕ) → Type 0) (a b : T) (c : Content) → content b ≡ Some c → TimeGoes (content b) (moment a) (moment b) (since a) (since b)
        → ((t : ℕ) (image : List (List ℕ)) → t ≤ moment a → IsCrash c.candidates image → since a t image ⊎ P image) → AddsCuts moment since P a b
    adds_told P a b c is time all = go (content b) is time
      where
        go : (o : Option Content) → o ≡ Some c → TimeGoes o (moment a) (moment b) (since a) (since b) → AddsCuts moment since P a b
        go None none time = absurd cc
        go (Some o) some time = record {
          time = omega (arith, time.count);
          only = λ t image le left. ⊎_elim (λ x. inl x) (λ x. all t image le (subst (λ (k : Content). IsCrash k.candidates image) (some_same o c some) x)) (time.nothing_else t image le left);
          keeps = time.keeps;
        }

    -- one call
    pub adds_call : (P : List (List ℕ) → Type 0) (a b : T) (c : Content) → content b ≡ Some c → TimeGoes (content b) (moment a) (moment b) (since a) (since b) → ((image : List (List ℕ)) → IsCrash c.candidates image → P image) → AddsCuts moment since P a b
    adds_call P a b c is time all = adds_told P a b c is time (λ t image le crash. inr (all image crash))

    -- a call after which a cut leaves nothing new
    pub adds_fewer : (P : List (List ℕ) → Type 0) (a b : T) (c d : Content) → content b ≡ Some d → ((image : List (List ℕ)) → IsCrash d.candidates image → IsCrash c.candidates image) → TimeGoes (content b) (moment a) (moment b) (since a) (since b)
        → ((t : ℕ) (image : List (List ℕ)) → t ≤ moment a → IsCrash c.candidates image → since a t image) → AddsCuts moment since P a b
    adds_fewer P a b c d is fewer time counts = adds_told P a b d is time (λ t image le crash. inl (counts t image le (fewer image crash)))

    -- a call that leaves the candidates that it found
    pub adds_same : (P : List (List ℕ) → Type 0) (a b : T) (c d : Content) → content b ≡ Some d → d.candidates ≡ c.candidates → TimeGoes (content b) (moment a) (moment b) (since a) (since b)
        → ((t : ℕ) (image : List (List ℕ)) → t ≤ moment a → IsCrash c.candidates image → since a t image) → AddsCuts moment since P a b
    adds_same P a b c d is same time counts = adds_fewer P a b c d is (λ image crash. subst (λ cs. IsCrash cs image) same crash) time counts

    -- reads alone
    pub adds_reads : (P : List (List ℕ) → Type 0) (a b : T) (c : Content) → content a ≡ Some c → AddsNoCut content moment since a b → AddsCuts moment since P a b
    adds_reads P a b c is adds = adds_map (λ image. ⊥) P a b (λ image none. absurd none) (adds c is)

    -- nothing is done
    pub no_cut_none : (a : T) → AddsNoCut content moment since a a
    no_cut_none a c is = adds_none (λ image. ⊥) a

    -- a read
    pub no_cut_read : (a b : T) → Goes Same (content a) (content b) → TimeGoes (content b) (moment a) (moment b) (since a) (since b)
        → ((c : Content) → content a ≡ Some c → (t : ℕ) (image : List (List ℕ)) → t ≤ moment a → IsCrash c.candidates image → since a t image) → AddsNoCut content moment since a b
    no_cut_read a b same time counts c is =
        let later = goes_told Same a b c is same in
        adds_same (λ image. ⊥) a b c later.told later.is later.holds.1 time (counts c is)

    -- a question for the sizes
    pub no_cut_sizes : (a b : T) → moment b ≡ moment a → ((t : ℕ) (image : List (List ℕ)) → since b t image → since a t image) → ((t : ℕ) (image : List (List ℕ)) → since a t image → since b t image) → AddsNoCut content moment since a b
    no_cut_sizes a b count past keeps c is = record {
      time = omega (arith, count);
      only = λ t image le left. inl (past t image left);
      keeps = λ t image le left. keeps t image left;
    }

    -- one after the other
    pub no_cut_then : (a b d : T) → Goes Same (content a) (content b) → AddsNoCut content moment since a b → AddsNoCut content moment since b d → AddsNoCut content moment since a d
    no_cut_then a b d same first second c is =
        let later = goes_told Same a b c is same in
        adds_then (λ image. ⊥) a b d (first c is) (second later.told later.is)
