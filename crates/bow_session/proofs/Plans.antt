-- What a script asks of a device.
use Rattle.std.proofs.Common.{◌≡◌, ℕ, suc, ◌-◌, ◌<◌, ◌≤◌, nat_lt, Bool, true, false, cond, List, [], ◌∷◌, length, Option, Some, None, arith, refl, ap}
use Rattle.std.specs.Prelude.{slice_get}
use Rattle.std.specs.Option.{option_map}
use Rattle.std.proofs.lemmas.Option.{slice_get_within}
use Rattle.std.proofs.lemmas.Bool.{ltb-true, ltb-false}
use Rattle.bow_units.specs.declared.sizes.Geometry.{Geometry}
use Rattle.bow_script.specs.declared.scripts.Line.{Line}
use Rattle.bow_history.specs.Sections.{SectionsRise}
use Rattle.bow_history.specs.Ends.{HasAtMost}
use Rattle.bow_session.specs.Requests.{request_of, section_lines, lane_lines, section_of, plan_of, requests_in}

rise_in : (script : List (List (List Line))) (lane n : ℕ) → section_of script lane n ≤ section_of script lane (suc n)
rise_in [] lane n = omega arith
rise_in (section ∷ sections) lane n = go (rise_in sections lane) (nat_lt n k) refl (nat_lt (suc n) k) refl
  where
    k : ℕ
    k = length (section_lines section lane)

    go : ((n : ℕ) → section_of sections lane n ≤ section_of sections lane (suc n)) → (t : Bool) → nat_lt n (length (section_lines section lane)) ≡ t → (u : Bool) → nat_lt (suc n) (length (section_lines section lane)) ≡ u
        → cond t 0 (suc (section_of sections lane (n - length (section_lines section lane)))) ≤ cond u 0 (suc (section_of sections lane (suc n - length (section_lines section lane))))
    go rest true is u more = omega arith
    go rest false is true more = absurd (let low = ltb-true (suc n) (length (section_lines section lane)) more in let high = ltb-false n (length (section_lines section lane)) is in omega (arith, low, high))
    go rest false is false more =
        let high = ltb-false n (length (section_lines section lane)) is in
        let next : suc n - length (section_lines section lane) ≡ suc (n - length (section_lines section lane)) = omega (arith, high) in
        let below = rest (n - length (section_lines section lane)) in
        let above : section_of sections lane (suc n - length (section_lines section lane)) ≡ section_of sections lane (suc (n - length (section_lines section lane))) = ap (section_of sections lane) next in
        omega (arith, below, above)

pub sections_rise : (g : Geometry) (script : List (List (List Line))) → SectionsRise (plan_of g script)
sections_rise g script lane n = rise_in script lane n

-- a request is one of the lane's lines
pub at_most : (g : Geometry) (script : List (List (List Line))) → HasAtMost (plan_of g script) (requests_in script)
at_most g script lane n op next = by (slice_get (lane_lines script lane) n) refl next
  where
    by : (o : Option Line) → slice_get (lane_lines script lane) n ≡ o → option_map (request_of g.block_size) o ≡ Some op → n < length (lane_lines script lane)
    by None is next = absurd (grind (arith, next))
    by (Some line) is next = slice_get_within (lane_lines script lane) n line is
