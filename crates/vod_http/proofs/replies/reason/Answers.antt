use Rattle.std.proofs.Common.{◌≡◌, ◌≤◌, ℕ, List, Option, Some, None, length, Bor, sym, ap, ◌∙◌, subst}
use Rattle.std.specs.Prelude.{option_map, unwrap_or}
use Rattle.http.specs.StatusCode.{reason_phrase}
use Rattle.list_model.specs.Reply.{phrase}
use Rattle.vod_http.proofs.Phrases.{sent_phrase}
use Rattle.vod_http.proofs.replies.reason.Goals as goal

text_of : (o : Option (Bor (List ℕ))) (d r : Bor (List ℕ)) (text : List ℕ) → option_map (λ s. s.now) o ≡ Some text → r ≡ unwrap_or o d → r.now ≡ text
text_of None d r text is same = absurd cc
text_of (Some s) d r text is same = let now : s.now ≡ text = cc in ap (λ (t : Bor (List ℕ)). t.now) same ∙ now

pub returns-in-Ok-clause-text : goal.returns-in-Ok-clause-text
returns-in-Ok-clause-text c =
    let p = sent_phrase c.args.status c.requires in
    c.as_bytes.ensures.value
    ∙ text_of c.canonical_reason.result _ c.unwrap_or.result (phrase c.args.status) (c.canonical_reason.ensures.value ∙ ap reason_phrase c.in-Ok.ensures.1 ∙ p.phrase_is) c.unwrap_or.ensures

pub returns-in-Ok-clause-short : goal.returns-in-Ok-clause-short
returns-in-Ok-clause-short c =
    subst (λ (t : List ℕ). length t ≤ 31) (sym (returns-in-Ok-clause-text c)) (sent_phrase c.args.status c.requires).short
