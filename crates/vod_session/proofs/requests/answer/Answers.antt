use Rattle.std.proofs.Common.{◌≡◌, ◌-◌, Some, take, drop, refl, sym, ap, ◌∙◌}
use Rattle.list_model.specs.declared.Verb.TheVariants.{Get, Head}
use Rattle.list_model.specs.Head.{verb_of}
use Rattle.vod_http.specs.Answered.{rest_of}
use Rattle.vod_session.proofs.RequestLemmas.{accepted, answered_by, each_begun, any_begun}
use Rattle.vod_session.proofs.requests.answer.Goals as goal

pub returns-in-Get-clause-answered : goal.returns-in-Get-clause-answered
returns-in-Get-clause-answered g c = λ answer told h is.
    let head = c.args.head.now in
    let path = take (head.target.1 - head.target.0) (drop head.target.0 c.args.bytes.now) in
    let given = g.A.Answerer.answer (g.A.Answerer.kept c.args.a.now) path head.range in
    let rest = g.A.Answerer.rest (g.A.Answerer.kept c.args.a.now) in
    answered_by answer rest h given head.range (g.A.Answerer.faults c.args.a.now) (g.A.Answerer.faults c.begin.new.self)
    (told path head.range ∙ ap (λ p. Some (answer p head.range)) is.target ∙ ap (λ r. Some (answer h.target r)) is.range)
    (accepted h Get (sym is.body ∙ c.if-head.false) (sym is.verb ∙ c.in-Get.is) refl)
    c.begin.result c.begin.ensures.replies
    (each_begun c.begin.result (λ length cursor. g.A.Answerer.rest (g.A.Answerer.kept c.begin.new.self) cursor ≡ rest_of given) (λ length cursor. verb_of h.method ≡ Get → rest cursor ≡ rest_of given)
    (λ length cursor rest_is get. ap (λ (k : g.A.Answerer.Kept). g.A.Answerer.rest k cursor) (sym c.begin.ensures.kept) ∙ rest_is)
    (c.begin.ensures.rest refl))

pub returns-in-Head-clause-answered : goal.returns-in-Head-clause-answered
returns-in-Head-clause-answered g c = λ answer told h is.
    let head = c.args.head.now in
    let path = take (head.target.1 - head.target.0) (drop head.target.0 c.args.bytes.now) in
    let given = g.A.Answerer.answer (g.A.Answerer.kept c.args.a.now) path head.range in
    let rest = g.A.Answerer.rest (g.A.Answerer.kept c.args.a.now) in
    let verb : verb_of h.method ≡ Head = sym is.verb ∙ c.in-Head.is in
    answered_by answer rest h given head.range (g.A.Answerer.faults c.args.a.now) (g.A.Answerer.faults c.begin-in-Head.new.self)
    (told path head.range ∙ ap (λ p. Some (answer p head.range)) is.target ∙ ap (λ r. Some (answer h.target r)) is.range)
    (accepted h Head (sym is.body ∙ c.if-head.false) verb refl)
    c.begin-in-Head.result c.begin-in-Head.ensures.replies
    (any_begun c.begin-in-Head.result (λ length cursor. verb_of h.method ≡ Get → rest cursor ≡ rest_of given) (λ length cursor get. absurd (let no : Get ≡ Head = sym get ∙ verb in cc)))
