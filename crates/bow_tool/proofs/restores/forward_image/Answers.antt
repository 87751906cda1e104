use Rattle.std.proofs.Common.{subst, sym}
use Rattle.bow_tool.specs.Outside.{disk_view}
use Rattle.bow_tool.specs.Sizes.{OnlySizes}
use Rattle.bow_tool.specs.Restores.{IsForwarded, IsForwardedLine, IsForwardRefusal}
use Rattle.bow_tool.proofs.Imaging.{forwarded_since, none_asked, told_cause, told_text}
use Rattle.bow_tool.proofs.restores.forward_image.Goals as goal

pub returns-clause-done : goal.returns-clause-done
returns-clause-done g c =
    let v = disk_view g.D.Disk.stated g.D.Disk.content g.D.Disk.moment g.D.Disk.left_since g.D.Disk.faults in
    let sizes = c.in-Ok.geometry in
    let mid = c.sizes_of.new.disk in
    let new = c.forward-answer.new.disk in
    let did : IsForwarded v sizes mid new c.forward-answer.result = record { reason = c.forward-answer.ensures.reason; memory = λ none. subst (λ d. OnlySizes v mid d) (sym (c.forward-answer.ensures.memory none)) (none_asked v mid); tells = c.forward-answer.ensures.tells; left = c.forward-answer.ensures.left; cuts = c.forward-answer.ensures.cuts } in
    told_text v new (λ s answer. IsForwarded v s c.args.disk.now new answer) IsForwardedLine IsForwardRefusal (λ text. text.items) sizes c.forward-answer.result c.told_forwarded.result (c.forward-answer.ensures.sizes, c.in-Ok.ensures.valid) (forwarded_since v sizes c.args.disk.now mid new c.forward-answer.result c.sizes_of.ensures.only did) c.told_forwarded.ensures

pub returns-clause-cause : goal.returns-clause-cause
returns-clause-cause g c =
    let v = disk_view g.D.Disk.stated g.D.Disk.content g.D.Disk.moment g.D.Disk.left_since g.D.Disk.faults in
    let sizes = c.in-Ok.geometry in
    let mid = c.sizes_of.new.disk in
    let new = c.forward-answer.new.disk in
    let did : IsForwarded v sizes mid new c.forward-answer.result = record { reason = c.forward-answer.ensures.reason; memory = λ none. subst (λ d. OnlySizes v mid d) (sym (c.forward-answer.ensures.memory none)) (none_asked v mid); tells = c.forward-answer.ensures.tells; left = c.forward-answer.ensures.left; cuts = c.forward-answer.ensures.cuts } in
    told_cause v c.args.disk.now new (λ s answer. IsForwarded v s c.args.disk.now new answer) IsForwardedLine IsForwardRefusal (λ text. text.items) sizes c.forward-answer.result c.told_forwarded.result (c.forward-answer.ensures.sizes, c.in-Ok.ensures.valid) (forwarded_since v sizes c.args.disk.now mid new c.forward-answer.result c.sizes_of.ensures.only did) c.told_forwarded.ensures
