use Rattle.std.proofs.Common.{◌≡◌, ◌++◌, length, sym, ◌∙◌, true, false, codes, arith}
use Rattle.std.specs.String.{string_bytes}
use Rattle.bow_units.specs.Blocks.{are_zero}
use Rattle.bow_units.specs.Contents.{hex_text, pattern_text, trimmed, content_text}
use Rattle.bow_units.proofs.PatternGroups.{has_groups}
use Rattle.bow_units.proofs.ContentTexts.{text_of_zero, text_of_pattern, text_of_other, parts_none, told_as}
use Rattle.bow_units.proofs.contents.push_content.Goals as goal

pub returns-then-all_zero : goal.returns-then-all_zero
returns-then-all_zero c =
    let are : are_zero c.args.bytes.now ≡ true = sym c.all_zero.ensures ∙ c.if-all_zero.true in
    told_as c.push_word.result (string_bytes c.args.out.now) (string_bytes c.push_word.new.out) (codes "zero") (content_text c.args.bytes.now) (text_of_zero c.args.bytes.now are) c.push_word.ensures

pub returns-in-Some : goal.returns-in-Some
returns-in-Some c =
    let not : are_zero c.args.bytes.now ≡ false = sym c.all_zero.ensures ∙ c.if-all_zero.false in
    let is = text_of_pattern c.args.bytes.now c.in-Some.block c.in-Some.seed (has_groups (length c.args.bytes.now) c.requires) not c.in-Some.ensures.found in
    told_as c.push_pattern.result (string_bytes c.args.out.now) (string_bytes c.push_pattern.new.out) (pattern_text c.in-Some.block c.in-Some.seed) (content_text c.args.bytes.now) is c.push_pattern.ensures

pub returns-in-None : goal.returns-in-None
returns-in-None c =
    let not : are_zero c.args.bytes.now ≡ false = sym c.all_zero.ensures ∙ c.if-all_zero.false in
    let is = text_of_other c.args.bytes.now not (parts_none c.args.bytes.now (λ k. omega (arith, c.type_inv.bytes k)) c.in-None.ensures.none) in
    told_as c.push_hex_word.result (string_bytes c.args.out.now) (string_bytes c.push_hex_word.new.out) (codes "hex " ++ hex_text (trimmed c.args.bytes.now)) (content_text c.args.bytes.now) is
    (rw c.trimmed.ensures at c.push_hex_word.ensures)
