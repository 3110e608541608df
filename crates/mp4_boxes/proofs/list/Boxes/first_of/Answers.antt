use Rattle.std.proofs.Common.{rules, tests, refl, bytes_eq}
use Rattle.std.proofs.lemmas.Iterator.Search.{find_from_yields_List}
use Rattle.std.proofs.lemmas.Iterator.Consumers.{YieldsList-from_first}
use Rattle.mp4_boxes.specs.Views.{placed, boxes_left}
use Rattle.mp4_boxes.proofs.list.Boxes.first_of.Goals as goal

pub returns : goal.returns
returns c =
    find_from_yields_List (λ b. bytes_eq b.kind c.args.kind.now) c.find.new.self _ _ c.find.ensures.ran
    (YieldsList-from_first placed boxes_left {s = c.args.self.now} (boxes_left c.args.self.now) refl)
    (λ x b q k. search (rules, tests))
