use Rattle.std.proofs.Common.{eqb, codes, cond, [], ◌∷◌}
use Rattle.list_model.specs.Reply.{reply_head, length_line, range_line, head_line}
use Rattle.vod_http.specs.Heads.{start_lines}
use Rattle.vod_http.proofs.Appends.{whole}
use Rattle.vod_http.proofs.replies.write_head.Goals as goal

pub returns : goal.returns
unfolding reply_head
returns c =
    whole c.new-head.result.items (start_lines c.args.status c.args.kind) (length_line c.args.length c.args.http10) (range_line c.args.part)
    (cond (eqb c.args.status 405) (head_line (codes "Allow: GET, HEAD")) []) (cond c.args.close (head_line (codes "Connection: close")) []) (13 ∷ 10 ∷ [])
    c.put_start.new.head.items c.put_length.new.head.items c.put_range.new.head.items c.put_end.new.head.items
    c.new-head.ensures c.put_start.ensures.items c.put_length.ensures.items c.put_range.ensures.items c.put_end.ensures
