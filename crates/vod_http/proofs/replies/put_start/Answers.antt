use Rattle.std.proofs.Common.{◌++◌, ◌∷◌, [], codes, decimal, ap, ◌∙◌}
use Rattle.list_model.specs.Reply.{phrase, media_text, head_line}
use Rattle.vod_http.proofs.Appends.{start}
use Rattle.vod_http.proofs.replies.put_start.Goals as goal

pub returns-clause-items : goal.returns-clause-items
returns-clause-items c =
    start c.args.head.now.items (codes "HTTP/1.1 ") (decimal c.args.status) (codes " ") (phrase c.args.status) (13 ∷ 10 ∷ []) (head_line (codes "Content-Type: " ++ media_text c.args.kind))
    c.put_text.new.head.items c.put_number.new.head.items c.put_line.new.head.items c.put_line-2.new.head.items
    c.put_text.ensures.items
    (c.put_number.ensures.items ∙ ap (λ n. c.put_text.new.head.items ++ decimal n) c.from.ensures)
    (c.put_line.ensures.items ∙ ap (λ t. c.put_number.new.head.items ++ head_line (codes " " ++ t)) c.reason.ensures.text)
    (c.put_line-2.ensures.items ∙ ap (λ t. c.put_line.new.head.items ++ head_line (codes "Content-Type: " ++ t)) c.media_text.ensures.text)
