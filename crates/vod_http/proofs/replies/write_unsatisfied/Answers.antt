use Rattle.std.proofs.Common.{◌++◌, Some, true, codes, cond, decimal, [], ◌∷◌}
use Rattle.std.specs.Fmt.{digits}
use Rattle.vod_types.specs.declared.media.Media.TheVariants.{Text}
use Rattle.list_model.specs.Reply.{unsatisfied_head, length_line, head_line}
use Rattle.vod_http.specs.Heads.{start_lines}
use Rattle.vod_http.proofs.Appends.{whole}
use Rattle.vod_http.proofs.replies.write_unsatisfied.Goals as goal

pub returns : goal.returns
unfolding unsatisfied_head digits
returns c =
    whole c.new-head.result.items (start_lines 416 Text) (length_line (Some 19) true) (head_line (codes "Content-Range: bytes */" ++ decimal c.args.length))
    [] (cond c.args.close (head_line (codes "Connection: close")) []) (13 ∷ 10 ∷ [])
    c.put_start.new.head.items c.put_length.new.head.items c.put_number_line.new.head.items c.put_end.new.head.items
    c.new-head.ensures c.put_start.ensures.items c.put_length.ensures.items c.put_number_line.ensures.items c.put_end.ensures
