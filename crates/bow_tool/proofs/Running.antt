-- What a script's run comes to, from how its session began.
use Rattle.std.proofs.Common.{◌≡◌, ℕ, ◌≤◌, List, [], Option, Some, false, arith, sym, ap, ◌∙◌, subst}
use Rattle.bow_units.specs.declared.sizes.Extent.{Extent}
use Rattle.bow_units.specs.declared.sizes.Geometry.{Geometry}
use Rattle.bow_units.specs.Causes.{Rose}
use Rattle.bow_disk.specs.Disk.{Content, IsCrash, IsImage, IsShaped}
use Rattle.bow_core.specs.Openings.{KeepsImage}
use Rattle.bow_script.specs.declared.scripts.Line.{Line}
use Rattle.bow_history.specs.Complete.{IsComplete}
use Rattle.bow_history.specs.DiskCuts.{StandsAheadToo}
use Rattle.bow_history.specs.Fits.{Agrees}
use Rattle.bow_session.specs.Leads.{WasLoaded}
use Rattle.bow_session.specs.Runs.{begun_over}
use Rattle.bow_session.specs.Sessions.{Run, IsOver, plan_in, state_in}
use Rattle.bow_past.specs.Readings.{Reading}
use Rattle.bow_past.specs.Running.{FaultsAreCountedBeside, PlaysBeside, RanBeside, ReadsTheCheckpoint, is_reading}
use Rattle.bow_play.specs.Beginning.{HasBegun}
use Rattle.bow_play.specs.Reading.{GaveScript}
use Rattle.bow_play.specs.declared.faults.PlayFault.TheVariants as plays
use Rattle.bow_play.proofs.Ends.{ahead, faults_told, leads, ran_on, sizes_told}
use Rattle.bow_guard.specs.Standing.{StandsFor}
use Rattle.bow_play.specs.Leading.{PlayLeads}
use Rattle.bow_promise.proofs.Played.{plays_are_promised}
use Rattle.bow_promise.proofs.Spaced.{plays_find_no_space_truly, sessions_find_no_space_truly}
use Rattle.bow_tool.specs.Outside.{Call, KeeperLeft, from_source}
use Rattle.bow_tool.specs.Pasts.{IsFirstReader, WasRunBeside}
use Rattle.bow_tool.specs.Play.{WasNotPlayed, WasRun}
use Rattle.bow_tool.specs.Sizes.{HasSizes}

module _ (c : Call) (begun : Run c.Disk) (b : HasBegun c.disks.stated c.disks.content c.disks.moment c.disks.left_since c.disks.faults c.disk begun) where
  -- a session that ran to its end
  pub was_run : (s : Run c.Disk) → GaveScript (from_source c) begun.script → s.script ≡ begun.script → c.disk_after ≡ s.core.disk
      → WasLoaded c.disks.stated c.disks.content c.disks.moment c.disks.left_since c.disks.faults b.first s
      → IsOver s → s.core.memory.requests ≡ [] → Agrees (plan_in s) (state_in s) (state_in s).kept → IsComplete (plan_in s) s.journal
      → ((d : c.Disk) (k : Content) → c.disks.content d ≡ Some k → (g : Geometry) → c.disks.stated d ≡ Some g → IsShaped g.block_size g.blocks k)
      → ((d : c.Disk) (k : Content) → c.disks.content d ≡ Some k → (g : Geometry) → c.disks.stated d ≡ Some g → (t : ℕ) (image : List (List ℕ)) → c.disks.left_since d t image → IsImage g.block_size g.blocks image)
      → ((d : c.Disk) (k : Content) → c.disks.content d ≡ Some k → (t : ℕ) (image : List (List ℕ)) → t ≤ c.disks.moment d → IsCrash k.candidates image → c.disks.left_since d t image)
      → ((d : c.Disk) (k : Content) → c.disks.content d ≡ Some k → (t : ℕ) (image : List (List ℕ)) → c.disks.moment d ≤ t → c.disks.left_since d t image → IsCrash k.candidates image)
      → WasRun c s
  was_run s given script disk loaded over idle buffers complete shaped cuts_shaped counts_now only_now =
      let sizes = sizes_told c.disks.stated c.disks.content c.disks.moment c.disks.left_since c.disks.faults c.disk begun b s loaded in
      let ran = ran_on c.disks.stated c.disks.content c.disks.moment c.disks.left_since c.disks.faults c.disk begun b s loaded in
      let led : (k : Content) → c.disks.content c.disk ≡ Some k → PlayLeads c.disks.content c.disks.moment c.disks.left_since (StandsFor s.core.geometry) c.disk k s =
      λ k is. leads c.disks.stated c.disks.content c.disks.moment c.disks.left_since c.disks.faults c.disk begun b s loaded shaped cuts_shaped counts_now only_now idle buffers k is in
      record {
        given = subst (λ (x : List (List (List Line))). GaveScript (from_source c) x) (sym script) given;
        disk = disk;
        sizes = sizes;
        over = over;
        complete = complete;
        ran = ran;
        faults = faults_told c.disks.stated c.disks.content c.disks.moment c.disks.left_since c.disks.faults c.disk begun b s loaded;
        plain = λ k is. (b.found k is).plain;
        leads = led;
        ahead = λ k is. ahead c.disks.stated c.disks.content c.disks.moment c.disks.left_since c.disks.faults c.disk begun b s loaded shaped cuts_shaped counts_now only_now idle buffers k is;
        space = plays_find_no_space_truly c.disks.stated c.disks.content c.disks.moment c.disks.left_since c.disks.faults c.disk s sizes.1 ran;
        promised = λ k is. plays_are_promised c.disks.stated c.disks.content c.disks.moment c.disks.left_since cuts_shaped counts_now c.disk k s (record { sizes = sizes.0; valid = sizes.1; plain = (b.found k is).plain; leads = led k is });
      }

  -- a session that made no step: the disk is as the opening left it
  pub not_begun : KeeperLeft c → c.disk_after ≡ begun.core.disk → WasNotPlayed c plays.NoMemory
  not_begun keeper disk =
      let same : c.disk_after ≡ (b.first).disk = disk ∙ ap (λ (v : Run c.Disk). v.core.disk) b.is in
      record {
        keeper = keeper;
        cause = tt;
        kept = subst (λ d. KeepsImage c.disks.stated c.disks.content c.disks.moment c.disks.left_since c.disks.faults c.disk d) (sym same) b.opened;
        clock = λ k is. (let counted = (b.found k is).counted in let at = ap c.disks.moment same in omega (arith, counted, at));
      }

  -- a session that ran to its end beside a reader
  pub ran_beside : (number : ℕ) (e : Extent) (first r : Option Reading) (s : Run c.Disk) → GaveScript (from_source c) begun.script → IsFirstReader begun.core.geometry e first → c.disk_after ≡ s.core.disk
      → (s.script ≡ begun.script) × (s.core.geometry ≡ begun.core.geometry)
      → (n : ℕ) × PlaysBeside c.disks.stated c.disks.content c.disks.moment c.disks.left_since c.disks.faults n number first begun r s
      → IsOver s → is_reading r s.core.memory.phase ≡ false → IsComplete (plan_in s) s.journal → HasSizes c.disks s.core.disk s.core.geometry
      → RanBeside c.disks.stated c.disks.content c.disks.moment c.disks.left_since c.disks.faults c.disk s
      → FaultsAreCountedBeside c.disks.faults c.disk r s
      → ((k : Content) → c.disks.content c.disk ≡ Some k → PlayLeads c.disks.content c.disks.moment c.disks.left_since (StandsFor s.core.geometry) c.disk k s)
      → ((k : Content) → c.disks.content c.disk ≡ Some k → (Rose (c.disks.faults c.disk) (c.disks.faults s.core.disk) → ⊥) → PlayLeads c.disks.content c.disks.moment c.disks.left_since (StandsAheadToo s.core.geometry) c.disk k s)
      → ((k : Content) → c.disks.content c.disk ≡ Some k → ReadsTheCheckpoint c.disks.content k.now r s)
      → ((d : c.Disk) (k : Content) → c.disks.content d ≡ Some k → (g : Geometry) → c.disks.stated d ≡ Some g → (t : ℕ) (image : List (List ℕ)) → c.disks.left_since d t image → IsImage g.block_size g.blocks image)
      → ((d : c.Disk) (k : Content) → c.disks.content d ≡ Some k → (t : ℕ) (image : List (List ℕ)) → t ≤ c.disks.moment d → IsCrash k.candidates image → c.disks.left_since d t image)
      → WasRunBeside number e c r s
  ran_beside number e first r s given reader disk script steps over read complete sizes ran faults led led_ahead reads cuts_shaped counts_now = record {
    given = subst (λ (x : List (List (List Line))). GaveScript (from_source c) x) (sym script.0) given;
    disk = disk;
    sizes = sizes;
    over = over;
    read = read;
    complete = complete;
    played = record { begun = begun; loaded = b; first = first; reader = reader; steps = steps.0; drawn = steps.1 };
    ran = ran;
    faults = faults;
    plain = λ k is. (b.found k is).plain;
    leads = led;
    ahead = led_ahead;
    reads = reads;
    space = sessions_find_no_space_truly (plan_in s) (begun_over ran.first) ran.turns ran.rise ran.sound ran.may;
    promised = λ k is. plays_are_promised c.disks.stated c.disks.content c.disks.moment c.disks.left_since cuts_shaped counts_now c.disk k s (record { sizes = sizes.0; valid = sizes.1; plain = (b.found k is).plain; leads = led k is });
  }
