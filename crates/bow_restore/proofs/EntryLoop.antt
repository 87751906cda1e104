-- The loop over the entries of a log, from the last to the first.
use Rattle.std.proofs.Common.{ℕ, zero, suc, ◌+◌, ◌-◌, ◌<◌, ◌≤◌, ◌≡◌, Bool, true, false, if◌then◌else◌, List, [], ◌∷◌, ◌++◌, length, take, drop, map, get_or, arith, refl, ap, ap₂, ◌∙◌}
use Rattle.std.specs.List.{AllByRecursion as Each}
use Rattle.std.proofs.lemmas.List.{take_more, length-map, get_or-map}
use Rattle.std.proofs.Math.Seq.{drop-cons}
use Rattle.bow_units.specs.declared.sizes.Geometry.{Geometry}
use Rattle.bow_log.specs.declared.entries.Entry.{Entry}
use Rattle.bow_log.specs.Spelling.{Fields}
use Rattle.bow_log.specs.Generations.{Backup, IsBackup, backup_of}
use Rattle.bow_log.specs.Rules.{IsLog}
use Rattle.bow_chain.specs.Chains.{IsEntry}
use Rattle.bow_chain.proofs.Sectors.{log_entries}
use Rattle.bow_restore.specs.Marks.{overlaps, since_mark}
use Rattle.bow_restore.specs.Dests.{AreNoted}
use Rattle.bow_restore.specs.Loops.{since_in, source_at}
use Rattle.bow_restore.specs.Replaying.{still_since}

pub none : Entry
none = record { source = 0; dest = 0; size = 0; sum = 0 }

pub each_take : {X : Type 0} (P : X → Type 0) (n : ℕ) (xs : List X) → Each P xs → Each P (take n xs)
each_take P zero xs all = tt
each_take P (suc n) [] all = tt
each_take P (suc n) (x ∷ xs) all = (all.0, each_take P n xs all.1)

pub each_drop : {X : Type 0} (P : X → Type 0) (n : ℕ) (xs : List X) → Each P xs → Each P (drop n xs)
each_drop P zero xs all = all
each_drop P (suc n) [] all = tt
each_drop P (suc n) (x ∷ xs) all = each_drop P n xs all.1

-- the backups of entries from this index on: that of the entry there, and the later ones
pub entry_next : (g : Geometry) (es : List Entry) (i : ℕ) → i < length es → drop i (map (backup_of g) es) ≡ backup_of g (get_or es i (record { source = 0; dest = 0; size = 0; sum = 0 })) ∷ drop (i + 1) (map (backup_of g) es)
entry_next g es i within =
    let long = length-map es (backup_of g) in
    let next : suc i ≡ i + 1 = omega arith in
    drop-cons (map (backup_of g) es) i (backup_of g none) (omega (arith, long)) ∙ ap₂ ◌∷◌ (get_or-map (backup_of g) es i (record { source = 0; dest = 0; size = 0; sum = 0 }) (backup_of g none) within) (ap (λ n. drop n (map (backup_of g) es)) next)

pub source_next : (g : Geometry) (log : Fields) (i : ℕ) → i < length log.entries → drop i (map (backup_of g) log.entries) ≡ source_at g log i ∷ drop (i + 1) (map (backup_of g) log.entries)
source_next g log i within = entry_next g log.entries i within

pub source_last : (g : Geometry) (log : Fields) (i : ℕ) → i < length log.entries → take (i + 1) (map (backup_of g) log.entries) ≡ take i (map (backup_of g) log.entries) ++ source_at g log i ∷ []
source_last g log i within =
    let long = length-map log.entries (backup_of g) in
    take_more (map (backup_of g) log.entries) i (backup_of g none) (omega (arith, long)) ∙ ap (λ (b : Backup). take i (map (backup_of g) log.entries) ++ b ∷ []) (get_or-map (backup_of g) log.entries i (record { source = 0; dest = 0; size = 0; sum = 0 }) (backup_of g none) within)

-- the entries replayed since are backups
pub entries_since : (g : Geometry) (log : Fields) (i end : ℕ) → IsLog g log → Each (IsEntry g) (take (end - i) (drop i log.entries))
entries_since g log i end ok = each_take (IsEntry g) (end - i) (drop i log.entries) (each_drop (IsEntry g) i log.entries (log_entries g log ok))

each_backup : (g : Geometry) (es : List Entry) → Each (IsEntry g) es → Each (IsBackup g) (map (backup_of g) es)
each_backup g [] all = tt
each_backup g (e ∷ es) all = (all.0.backup, each_backup g es all.1)

pub backups_since : (g : Geometry) (log : Fields) (i end : ℕ) → IsLog g log → Each (IsBackup g) (since_in g log i end)
backups_since g log i end ok = each_backup g (take (end - i) (drop i log.entries)) (entries_since g log i end ok)

-- what the test for a mark says of the entry of this index
pub due_is : (g : Geometry) (log : Fields) (es : List Entry) (i end : ℕ) (dests : List Bool) (due : Bool) → es ≡ log.entries → IsLog g log
    → ((since : List Backup) → Each (IsBackup g) since → AreNoted g since dests → due ≡ overlaps (backup_of g (get_or es i (record { source = 0; dest = 0; size = 0; sum = 0 }))) since)
    → AreNoted g (since_in g log (i + 1) end) dests → due ≡ overlaps (source_at g log i) (since_in g log (i + 1) end)
due_is g log es i end dests due same ok says noted =
    says (since_in g log (i + 1) end) (backups_since g log (i + 1) end ok) noted
    ∙ ap (λ (fs : List Entry). overlaps (backup_of g (get_or fs i (record { source = 0; dest = 0; size = 0; sum = 0 }))) (since_in g log (i + 1) end)) same

-- with nothing replayed yet
pub since_none : (g : Geometry) (log : Fields) (i end : ℕ) → end ≤ i → since_in g log i end ≡ []
since_none g log i end le = ap (λ n. map (backup_of g) (take n (drop i log.entries))) (let e : end - i ≡ 0 = omega arith in e)

-- one entry more
pub since_more : (g : Geometry) (log : Fields) (i end : ℕ) → i < end → end ≤ length log.entries → since_in g log i end ≡ source_at g log i ∷ since_in g log (i + 1) end
since_more g log i end below within =
    let next : suc i ≡ i + 1 = omega arith in
    let count : end - i ≡ suc (end - (i + 1)) = omega arith in
    ap (λ n. map (backup_of g) (take n (drop i log.entries))) count
    ∙ ap (λ (es : List Entry). map (backup_of g) (take (suc (end - (i + 1))) es)) (drop-cons log.entries i (record { source = 0; dest = 0; size = 0; sum = 0 }) (omega arith))
    ∙ ap (λ n. source_at g log i ∷ map (backup_of g) (take (end - (i + 1)) (drop n log.entries))) next

-- what was replayed since the last mark, with one backup more
pub since_step : (b : Backup) (bs : List Backup) → since_mark (b ∷ bs) ≡ b ∷ still_since b (since_mark bs)
since_step b bs = by (overlaps b (since_mark bs))
  where
    by : (t : Bool) → ◌≡◌ {A = List Backup} (if t then b ∷ [] else b ∷ since_mark bs) (b ∷ (if t then [] else since_mark bs))
    by true = refl
    by false = refl

pub still_none : (b : Backup) (since : List Backup) → overlaps b since ≡ true → still_since b since ≡ []
still_none b since e = ap (λ t. if t then [] else since) e

pub still_all : (b : Backup) (since : List Backup) → overlaps b since ≡ false → still_since b since ≡ since
still_all b since e = ap (λ t. if t then [] else since) e

pub front_map : (g : Geometry) (n : ℕ) (es : List Entry) → map (backup_of g) (take n es) ≡ take n (map (backup_of g) es)
front_map g zero es = refl
front_map g (suc n) [] = refl
front_map g (suc n) (e ∷ es) = ap (λ bs. backup_of g e ∷ bs) (front_map g n es)
