use Rattle.std.proofs.Common.{◌∷◌, [], codes, decimal}
use Rattle.vod_http.proofs.Appends.{ranged}
use Rattle.vod_http.proofs.replies.put_range.Goals as goal

pub returns-in-Some-clause-items : goal.returns-in-Some-clause-items
returns-in-Some-clause-items c =
    rw c.in-Some.is
    (ranged c.args.head.now.items (codes "Content-Range: bytes ") (decimal c.in-Some.first) (codes "-") (decimal c.in-Some.last) (codes "/") (decimal c.in-Some.whole) (13 ∷ 10 ∷ [])
    c.put_text.new.head.items c.put_number.new.head.items c.put_text-in-Some.new.head.items c.put_number-in-Some.new.head.items c.put_number_line.new.head.items
    c.put_text.ensures.items c.put_number.ensures.items c.put_text-in-Some.ensures.items c.put_number-in-Some.ensures.items c.put_number_line.ensures.items)
