use Rattle.std.proofs.Common.{◌≡◌, ℕ, eqb, eq-eqb, ne_eqb, ◌||◌, Bool, map, sym, ap, ◌∙◌}
use Rattle.std.specs.List.{list_any}
use Rattle.httparse.specs.Spans.{name_and_value}
use Rattle.list_model.specs.Head.{says_body, says_close, has_body, asks_close, verb_of, range_for, asked_range}
use Rattle.vod_http.proofs.requests.head_at.Goals as goal
use Rattle.vod_http.proofs.requests.head_at.Goals.{then-http10, else-http10}

closes_always : (version minor : ℕ) (said : Bool) → version ≡ minor → version ≡ 0 → eqb version 0 ≡ (eqb minor 0 || said)
closes_always version minor said same old = eq-eqb version 0 old ∙ sym (ap (λ b. b || said) (eq-eqb minor 0 (sym same ∙ old)))

closes_as_said : (version minor : ℕ) (found said : Bool) → version ≡ minor → (version ≡ 0 → ⊥) → found ≡ said → found ≡ (eqb minor 0 || said)
closes_as_said version minor found said same newer is = is ∙ sym (ap (λ b. b || said) (ne_eqb minor 0 (λ old. newer (same ∙ old))))

pub returns : goal.returns
unfolding has_body asks_close asked_range
returns c = λ h at count.
    let verb : c.verb_of-verb.result ≡ verb_of h.method = c.verb_of-verb.ensures ∙ ap verb_of (c.of.ensures ∙ at.method) in
    record {
      reads = (at.reads, count);
      used = at.len;
      verb = verb;
      target = at.path;
      target_ordered = c.requires.path.0;
      target_within = c.requires.path.1;
      body = c.has_body.ensures ∙ ap (list_any says_body) at.fields;
      version = ap (λ v. eqb v 0) at.version;
      close = elim c.if-http10.branch [
        | then-http10 w ↦ w.result-is ∙ closes_always c.args.spans.version h.minor (list_any says_close (map name_and_value h.fields)) at.version w.if-http10.true
        | else-http10 w ↦
            w.result-is
            ∙ closes_as_said c.args.spans.version h.minor w.asks_close.result (list_any says_close (map name_and_value h.fields)) at.version w.if-http10.false
            (w.asks_close.ensures ∙ ap (list_any says_close) at.fields)
      ];
      range = c.asked_range.ensures ∙ ap (range_for c.verb_of-verb.result) at.fields ∙ ap (λ v. range_for v (map name_and_value h.fields)) verb;
    }
