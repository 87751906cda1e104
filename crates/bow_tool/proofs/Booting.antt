-- A boot of the disk that was given, whose sizes were asked first.
use Rattle.std.proofs.Common.{◌≡◌, inr, ℕ, ◌≤◌, Bool, List, Some, Result, Ok, Err, IfOk, IfErr, MatchResult, sym, ◌∙◌, subst}
use Rattle.std.specs.Prelude.{IsOk}
use Rattle.bow_units.specs.declared.sizes.Geometry.{Geometry}
use Rattle.bow_disk.specs.Disk.{Content}
use Rattle.bow_disk.specs.Moments.{Tells}
use Rattle.vold_commands.specs.Boot.{BootPuts, BootTime, IsBootCaused, PutsBack}
use Rattle.vold_commands.specs.declared.boots.Booted.{Booted}
use Rattle.vold_commands.specs.declared.boots.BootFault.{BootFault}
use Rattle.vold_commands.specs.declared.boots.BootFault.TheVariants as boots
use Rattle.bow_tool.specs.declared.refusals.Refusal.{Refusal}
use Rattle.bow_tool.specs.Outside.{DiskView, KeeperView}
use Rattle.bow_tool.specs.Sizes.{HasSizes, OnlySizes}
use Rattle.bow_tool.specs.Boots.{BootRefused, BootWith, IsBooted, IsBootRefusal, IsBootedLine}
use Rattle.bow_tool.proofs.Imaging.{content_kept, cuts_since, recovered_since, rose_since}

boot_cause : (k l a b c : ℕ) (r : Result Booted BootFault) → a ≤ b → IsBootCaused k l b c r → IsBootCaused k l a c r
boot_cause k l a b c (Ok booted) later is = is
boot_cause k l a b c (Err boots.KeeperFault) later is = is
boot_cause k l a b c (Err boots.BadAttempts) later is = is
boot_cause k l a b c (Err (boots.BadChain fault)) later is = is
boot_cause k l a b c (Err boots.DiskFault) later is = rose_since a b c later is
boot_cause k l a b c (Err boots.NoMemory) later is = is

pub booted_since : {D K : Type 0} (v : DiskView D) (w : KeeperView K) (g : Geometry) (old mid new : D) (from to : K)
    (r : Result Booted BootFault) → OnlySizes v old mid → IsBooted v w g mid new from to r → IsBooted v w g old new from to r
booted_since v w g old mid new from to r asked did =
    let same : v.content mid ≡ v.content old = content_kept v old mid asked in
    let since : (cut : List (List ℕ)) → v.left_since new (v.moment old) cut → v.left_since new (v.moment mid) cut = λ cut left. subst (λ t. v.left_since new t cut) (sym asked.moment) left in
    record {
      answer = did.answer;
      cause = boot_cause (w.faults from) (w.faults to) (v.faults old) (v.faults mid) (v.faults new) r asked.faults did.cause;
      leaves = λ c is. did.leaves c (same ∙ is);
      is_cut = λ c is. did.is_cut c (same ∙ is);
      texts = λ k is. subst (λ told. BootTime (w.moment from) (w.moment to) (w.left_since from) (w.left_since to) (BootPuts ((c : Content) → told ≡ Some c → (logged : Bool) × Tells v.content (PutsBack g logged c) new) k)) same (did.texts k is);
      cuts = λ c is. cuts_since v _ old mid new asked (did.cuts c (same ∙ is));
      holds = λ c is used saved plain held cut left. did.holds c (same ∙ is) used saved plain held cut (since cut left);
      in_place = λ c is. did.in_place c (same ∙ is);
      recovered = λ c is kept told p n first k sizes left. recovered_since v g p n first k (IsOk r) old mid new asked (did.recovered c (same ∙ is) kept told p n first k sizes left);
    }

pub boot_text : {D K T : Type 0} (v : DiskView D) (w : KeeperView K) (old new : D) (from to : K) (items : T → List ℕ)
    (g : Geometry) (answer : Result Booted BootFault) (r : Result T Refusal) → HasSizes v new g
    → IsBooted v w g old new from to answer → MatchResult r (λ text. IsBootedLine answer (items text)) (IsBootRefusal answer)
    → IfOk r (λ text. BootWith v w old new from to (λ a. IsBootedLine a (items text)))
boot_text v w old new from to items g answer (Ok text) sizes did told = (g, sizes, (answer, did, told))
boot_text v w old new from to items g answer (Err refusal) sizes did told = tt

pub boot_refusal : {D K T : Type 0} (v : DiskView D) (w : KeeperView K) (old new : D) (from to : K) (items : T → List ℕ)
    (g : Geometry) (answer : Result Booted BootFault) (r : Result T Refusal) → HasSizes v new g
    → IsBooted v w g old new from to answer → MatchResult r (λ text. IsBootedLine answer (items text)) (IsBootRefusal answer)
    → IfErr r (BootRefused v w old new from to)
boot_refusal v w old new from to items g answer (Ok text) sizes did told = tt
boot_refusal v w old new from to items g answer (Err refusal) sizes did told = inr (g, sizes, (answer, did, told))
