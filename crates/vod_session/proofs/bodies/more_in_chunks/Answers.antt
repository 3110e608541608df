use Rattle.std.proofs.Common.{rules, List, ℕ, length, Option, true, eq-eqb, sym, ◌∙◌, subst}
use Rattle.std.proofs.lemmas.Bool.{false≢true}
use Rattle.vod_source.specs.declared.step.Step.TheVariants.{SinkFailed}
use Rattle.vod_http.specs.Answered.{Advances, KeepsPackets}
use Rattle.vod_session.specs.Chunks.{came_on}
use Rattle.vod_session.proofs.BodyLemmas.{sends_chunks, sends_cut, sends_through, none_came}
use Rattle.vod_session.proofs.bodies.more_in_chunks.Goals as goal

pub returns-then-has_failed-clause-sends : goal.returns-then-has_failed-clause-sends
returns-then-has_failed-clause-sends g c =
    let sink = c.more-step.new.sink in
    let base = g.B.Base.text in
    let rest = g.A.Answerer.rest (g.A.Answerer.kept c.args.a.now) c.args.cursor.now in
    let after = g.A.Answerer.rest (g.A.Answerer.kept c.more-step.new.self) c.more-step.new.cursor in
    let written = g.L.Sink.written c.args.link.now in
    let now = g.L.Sink.written sink.inner.now in
    let none = none_came g.L.Sink.written base c.new-chunks.result.parity c.new-chunks.result.held.items c.new-chunks.result.inner.now c.args.link.now (search rules) c.new-chunks.ensures.parity c.new-chunks.ensures.held in
    sends_through g.L.Sink.written _ sink.inner.now true rest after written SinkFailed (search rules)
    (sends_cut rest after base written now sink.parity sink.held.items c.more-step.result c.requires.text sink.chunked
    (subst (λ (b : Option (List ℕ)). Advances rest after b (came_on base now sink.parity sink.held.items) c.more-step.result) none c.more-step.ensures.advances))

pub returns-clause-sends : goal.returns-clause-sends
returns-clause-sends g c =
    let sink = c.more-step.new.sink in
    let base = g.B.Base.text in
    let rest = g.A.Answerer.rest (g.A.Answerer.kept c.args.a.now) c.args.cursor.now in
    let after = g.A.Answerer.rest (g.A.Answerer.kept c.more-step.new.self) c.more-step.new.cursor in
    let written = g.L.Sink.written c.args.link.now in
    let now = g.L.Sink.written sink.inner.now in
    let came = came_on base now sink.parity sink.held.items in
    let none = none_came g.L.Sink.written base c.new-chunks.result.parity c.new-chunks.result.held.items c.new-chunks.result.inner.now c.args.link.now (search rules) c.new-chunks.ensures.parity c.new-chunks.ensures.held in
    let packets : KeepsPackets true (came_on base (g.L.Sink.written c.new-chunks.result.inner.now) c.new-chunks.result.parity c.new-chunks.result.held.items) came c.more-step.result =
    subst (λ (b : _). KeepsPackets b (came_on base (g.L.Sink.written c.new-chunks.result.inner.now) c.new-chunks.result.parity c.new-chunks.result.held.items) came c.more-step.result) c.requires.in_packets c.more-step.ensures.packets in
    sends_through g.L.Sink.written _ sink.inner.now true rest after written c.more-step.result (search rules)
    (sends_chunks rest after base written now sink.parity sink.held.items c.more-step.result c.requires.text sink.chunked
    (subst (λ (b : Option (List ℕ)). Advances rest after b came c.more-step.result) none c.more-step.ensures.advances)
    (λ full. false≢true (sym c.if-has_failed.false ∙ c.has_failed.ensures ∙ eq-eqb (length sink.held.items) 188 full))
    (subst (λ (b : Option (List ℕ)). KeepsPackets true b came c.more-step.result) none packets))
