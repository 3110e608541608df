-- What a session does where it replies to a request.
use Rattle.std.proofs.Common.{◌≡◌, ◌<◌, ◌≤◌, ℕ, ◌+◌, ◌^◌, ◌||◌, Bool, eqb, MatchOption, Option, List, [], length, refl, sym, ap, ◌∙◌, subst}
use Rattle.std.specs.Prelude.{if◌then◌else◌}
use Rattle.std.specs.Option.{option_map_or}
use Rattle.httparse.specs.Grammar.{RequestHead}
use Rattle.vod_types.specs.declared.media.Media.{Media}
use Rattle.vod_types.specs.declared.refusal.Refusal.{Refusal}
use Rattle.list_model.specs.declared.Head as heads
use Rattle.list_model.specs.declared.Verb.TheVariants as verbs
use Rattle.list_model.specs.Text.{line}
use Rattle.list_model.specs.Head.{IsHead, is_http10, verb_of, asked_range}
use Rattle.list_model.specs.Reply.{refusal_text, refusal_head, reply_head}
use Rattle.list_model.specs.Exchange.{Turn, due, request, MayBeGiven, IsAllowed, is_head_verb, closes_after, turn_rest, head_room}
use Rattle.vod_http.specs.Answered.{Rest}
use Rattle.vod_http.specs.declared.answerer.Reply.TheVariants as reply
use Rattle.vod_session.specs.declared.replies.Put.{Put}
use Rattle.vod_session.specs.declared.state.Sending.{Sending}
use Rattle.vod_session.specs.declared.state.Turn as turn_of
use Rattle.vod_session.specs.Calls.{IsToldBy}
use Rattle.vod_session.specs.Replies.{IsPut}
use Rattle.vod_session.specs.Requests.{IsAnswered}
use Rattle.vod_session.specs.Sessions.{SessionValue}
use Rattle.vod_session.specs.Steps.{Answers, goes_chunked, Replied}
use Rattle.vod_session.specs.Turns.{IsIdle, after_put, after_begin}
use Rattle.vod_session.proofs.RepliedLemmas.{put_did, begin_did}
use Rattle.vod_session.proofs.SessionLemmas.{idle_is}
use Rattle.vod_session.proofs.TurnTexts.{refused_head, refused_rest, refused_end, body_head, head_alone, head_alone_end, closes_is, not_get}

module _
    {C : Type 0} (answer : Answers) (rest : C → Option Rest) (before view : SessionValue C) (view_is : view ≡ before) (head : heads.Head) (h : RequestHead) (is : IsHead before.room head h)
    (idle : IsIdle before.state) (fits : length before.room ≤ head_room) (small : before.progress < 2 ^ 64)
    (close : Bool) (closing : close ≡ ((head.close || head.has_body) || eqb (view.requests + 1) 10000))
    (faults faults_now : ℕ) (put : Put) (left left_now written written_now : Option (List ℕ)) (kept : left_now ≡ left)
  where
    abbrev Did : SessionValue C → turn_of.Turn → Type 0
    Did now went = IsToldBy (λ input over text. (turn : Turn) × Replied answer rest before now input over text faults faults_now went turn) left left_now written written_now

    closes : closes_after (before.requests + 1) h ≡ close
    closes =
        closes_is before.room head h (before.requests + 1) is
        ∙ sym (closing ∙ ap (λ (v : SessionValue C). (head.close || head.has_body) || eqb (v.requests + 1) 10000) view_is)

    with_turn : (turn : Turn) (now : SessionValue C) (went : turn_of.Turn) →
        IsToldBy (λ input over text. Replied answer rest before now input over text faults faults_now went turn) left left_now written written_now → Did now went
    with_turn turn now went did = λ input text left_is written_is. let one = did input text left_is written_is in (one.0, one.1, one.2, one.3, (turn, one.4))

    pub refused_did : (why : Refusal) (head_only : Bool) (now : SessionValue C) (went : turn_of.Turn) → IsAnswered answer rest h faults faults_now (reply.Refused why) → head_only ≡ is_head_verb head.verb →
        IsPut (refusal_head why head.http10 close) (if head_only then [] else line (refusal_text why)) written written_now put → (now, went) ≡ after_put before head.used put close → Did now went
    refused_did why head_only now went answered alone put_is after =
        let given = answered.0 in
        let verb : is_head_verb (verb_of h.method) ≡ head_only = sym (alone ∙ ap is_head_verb is.verb) in
        with_turn (request h given) now went
        (put_did answer rest before (request h given) (refusal_head why head.http10 close) (if head_only then [] else line (refusal_text why)) [] small
        (refused_head answer h given answered.3 why answered.4 (before.requests + 1) head_only close verb closes head.http10 (sym is.version))
        (refused_rest answer h given answered.3 why answered.4 (before.requests + 1) head_only close verb closes)
        (idle_is before.state idle) fits head.used is.reads answered.1 faults faults_now answered.2 put left left_now written written_now kept put_is
        close now went refl (refused_end answer h given answered.3 why answered.4 (before.requests + 1) head_only close verb closes)
        after)

    module _ (kind : Media) (length_told : Option ℕ) (part : Option (ℕ × ℕ × ℕ)) (cursor : C) (answered : IsAnswered answer rest h faults faults_now (reply.Body kind length_told part cursor))
        (put_is : IsPut (reply_head (option_map_or (λ _. 206) part 200) kind length_told head.http10 close part) [] written written_now put)
      where
        head_is : reply_head (option_map_or (λ _. 206) answered.0.part 200) answered.0.kind answered.0.length head.http10 close answered.0.part
            ≡ reply_head (option_map_or (λ _. 206) part 200) kind length_told head.http10 close part
        head_is =
            ap (λ (k : Media). reply_head (option_map_or (λ _. 206) answered.0.part 200) k answered.0.length head.http10 close answered.0.part) answered.3
            ∙ ap (λ (n : Option ℕ). reply_head (option_map_or (λ _. 206) answered.0.part 200) kind n head.http10 close answered.0.part) answered.4
            ∙ ap (λ (p : Option (ℕ × ℕ × ℕ)). reply_head (option_map_or (λ _. 206) p 200) kind length_told head.http10 close p) answered.5

        allowed : IsAllowed answer (request h due)
        allowed = subst (λ (o : Option Refusal). MatchOption o (MayBeGiven due (verb_of h.method) (answer h.target (asked_range h))) (λ r. due ≡ due)) (sym answered.1) tt

        pub head_did : (now : SessionValue C) (went : turn_of.Turn) → (head.verb ≡ verbs.Get → ⊥) → (now, went) ≡ after_put before head.used put close → Did now went
        head_did now went other after =
            let verb = not_get h head.verb (sym is.verb) answered.1 other in
            with_turn (request h due) now went
            (put_did answer rest before (request h due) (reply_head (option_map_or (λ _. 206) part 200) kind length_told head.http10 close part) [] [] small
            (body_head answer h answered.0 answered.2 (before.requests + 1) close closes head.http10 (sym is.version) ∙ head_is)
            (head_alone answer h answered.0 answered.2 (before.requests + 1) close closes verb)
            (idle_is before.state idle) fits head.used is.reads allowed faults faults_now (λ fault. absurd cc) put left left_now written written_now kept put_is
            close now went refl (head_alone_end answer h answered.0 answered.2 (before.requests + 1) close closes verb)
            after)

        pub begun_did : (chunked : Bool) (now : SessionValue C) (went : turn_of.Turn) → head.verb ≡ verbs.Get → chunked ≡ goes_chunked head.http10 length_told →
            (now, went) ≡ after_begin before head.used put (record { cursor = cursor; chunked = chunked; close = close }) → Did now went
        begun_did chunked now went get goes after =
            let verb : verb_of h.method ≡ verbs.Get = sym is.verb ∙ get in
            let sending : Sending C = record { cursor = cursor; chunked = chunked; close = close } in
            with_turn (request h due) now went
            (begin_did answer rest before (request h due) (reply_head (option_map_or (λ _. 206) part 200) kind length_told head.http10 close part) [] (turn_rest answer (request h due)) small
            (body_head answer h answered.0 answered.2 (before.requests + 1) close closes head.http10 (sym is.version) ∙ head_is)
            refl
            (idle_is before.state idle) fits head.used is.reads allowed faults faults_now (λ fault. absurd cc) put left left_now written written_now kept put_is
            h sending answered.0.bytes now went refl refl
            (record {
              body = answered.0;
              accepted = answered.1;
              verb = verb;
              answered = answered.2;
              split = refl;
              cursor = answered.6 verb;
              chunked = goes ∙ ap (λ (v : Bool). goes_chunked v length_told) is.version ∙ ap (goes_chunked (is_http10 h)) (sym answered.4);
              packets = λ chunks. refl;
              close = sym closes;
            })
            after)
