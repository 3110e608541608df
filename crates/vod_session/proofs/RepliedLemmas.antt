-- What a session does where it replies.
use Rattle.std.proofs.Common.{◌≡◌, ◌<◌, ◌≤◌, ℕ, ◌+◌, ◌^◌, Bool, true, false, Option, Some, None, List, [], ◌++◌, length, drop, refl, sym, ap, ◌∙◌, subst, inl, inr, arith, append_assoc}
use Rattle.std.specs.Prelude.{if◌then◌else◌}
use Rattle.std.proofs.lemmas.List.{append-nil}
use Rattle.httparse.specs.Grammar.{RequestHead}
use Rattle.list_model.specs.declared.Why.TheVariants as why
use Rattle.list_model.specs.Exchange.{Turn, request, due, head_room, turn_head, turn_rest, why_after, IsAllowed, meets_store_fault}
use Rattle.vod_source.specs.Causes.{Rose}
use Rattle.vod_http.specs.Answered.{Rest}
use Rattle.vod_session.specs.declared.replies.Put.{Put}
use Rattle.vod_session.specs.declared.replies.Put.TheVariants.{All, Head, Cut}
use Rattle.vod_session.specs.declared.state.Sending.{Sending}
use Rattle.vod_session.specs.declared.state.State.TheVariants as at
use Rattle.vod_session.specs.declared.state.Turn as turn_of
use Rattle.vod_session.specs.Calls.{IsToldBy}
use Rattle.vod_session.specs.Replies.{IsPut}
use Rattle.vod_session.specs.Sessions.{SessionValue, raised_by}
use Rattle.vod_session.specs.Steps.{Answers, StandsInRoom, IsBodyOf, IsReplied, Replied}
use Rattle.vod_session.specs.Turns.{ended_by, counted, after_put, after_begin}

-- a head, the front of what stands behind it, and the rest of that
cut_behind : (head front back tail rest all : List ℕ) → rest ≡ front ++ back → all ≡ rest ++ tail → (head ++ front) ++ (back ++ tail) ≡ head ++ all
cut_behind head front back tail rest all split all_is =
    append_assoc head front (back ++ tail)
    ∙ ap (λ (l : List ℕ). head ++ l) (sym (append_assoc front back tail) ∙ ap (λ (l : List ℕ). l ++ tail) (sym split) ∙ sym all_is)

module _
    {C : Type 0} (answer : Answers) (rest : C → Option Rest) (before : SessionValue C) (turn : Turn) (head_text rest_text tail : List ℕ)
    (small : before.progress < 2 ^ 64) (head_is : turn_head answer (before.requests + 1) turn ≡ head_text) (rest_is : turn_rest answer turn ≡ rest_text ++ tail)
  where
    cut_in_rest : (over front back : List ℕ) → rest_text ≡ front ++ back →
        IsReplied answer rest before (ended_by (counted before) why.LinkFailed).0 over (head_text ++ front) turn (ended_by (counted before) why.LinkFailed).1
    cut_in_rest over front back split = (
      ap (λ (n : ℕ). raised_by n before.progress) (omega arith),
      record {
        more = back ++ tail;
        front_is = cut_behind head_text front back tail rest_text (turn_rest answer turn) split rest_is ∙ ap (λ (l : List ℕ). l ++ turn_rest answer turn) (sym head_is);
        head = inr (refl, front, ap (λ (l : List ℕ). l ++ front) (sym head_is));
      },
    )

    cut_in_head : (over front back : List ℕ) → head_text ≡ front ++ back →
        IsReplied answer rest before (ended_by before why.LinkFailed).0 over front turn (ended_by before why.LinkFailed).1
    cut_in_head over front back split = (
      omega arith,
      record {
        more = back ++ turn_rest answer turn;
        front_is = sym (append_assoc front back (turn_rest answer turn)) ∙ ap (λ (l : List ℕ). l ++ turn_rest answer turn) (sym split ∙ sym head_is);
        head = inl refl;
      },
    )

    abbrev Put_as : SessionValue C × turn_of.Turn → List ℕ → List ℕ → Option (List ℕ) → Type 0
    Put_as after over text now = (more : List ℕ) × (now ≡ Some (text ++ more)) × IsReplied answer rest before after.0 over more turn after.1

    text_is : rest_text ++ tail ≡ rest_text → head_text ++ rest_text ≡ turn_head answer (before.requests + 1) turn ++ turn_rest answer turn
    text_is whole = ap (λ (l : List ℕ). head_text ++ l) (sym whole ∙ sym rest_is) ∙ ap (λ (l : List ℕ). l ++ turn_rest answer turn) (sym head_is)

    replied_put : (put : Put) (close : Bool) (used : ℕ) (text : List ℕ) (now : Option (List ℕ)) → tail ≡ [] →
        why_after answer (before.requests + 1) turn ≡ (if close then Some why.Closed else None) → IsPut head_text rest_text (Some text) now put →
        Put_as (after_put before used put close) (drop used before.room) text now
    replied_put All true used text now none ends is = (
      head_text ++ rest_text,
      is,
      (ap (λ (n : ℕ). raised_by n before.progress) (omega arith), (text_is (ap (λ (l : List ℕ). rest_text ++ l) none ∙ append-nil rest_text), ends, refl)),
    )
    replied_put All false used text now none ends is = (
      head_text ++ rest_text,
      is,
      inl (record { text_is = text_is (ap (λ (l : List ℕ). rest_text ++ l) none ∙ append-nil rest_text); goes_on = ends; now_is = refl }),
    )
    replied_put Head close used text now none ends is = (head_text ++ is.0, is.3, cut_in_rest (drop used before.room) is.0 is.1 is.2)
    replied_put Cut close used text now none ends is = (is.front, is.grew, cut_in_head (drop used before.room) is.front is.back is.split)

    replied_begin : (put : Put) (h : RequestHead) (sending : Sending C) (bytes : List ℕ) (used : ℕ) (text : List ℕ) (now : Option (List ℕ)) → rest_text ≡ [] → turn ≡ request h due →
        IsBodyOf answer rest (before.requests + 1) h sending [] bytes → IsPut head_text rest_text (Some text) now put →
        Put_as (after_begin before used put sending) (drop used before.room) text now
    replied_begin All h sending bytes used text now none is_due begun is = (
      head_text,
      is ∙ ap (λ (l : List ℕ). Some (text ++ l)) (ap (λ (l : List ℕ). head_text ++ l) none ∙ append-nil head_text),
      inr (record { head = h; turn_is = is_due; sending = sending; bytes = bytes; begun = begun; text_is = sym head_is; now_is = refl }),
    )
    replied_begin Head h sending bytes used text now none is_due begun is = (head_text ++ is.0, is.3, cut_in_rest (drop used before.room) is.0 is.1 is.2)
    replied_begin Cut h sending bytes used text now none is_due begun is = (is.front, is.grew, cut_in_head (drop used before.room) is.front is.back is.split)

    -- ---- and so on a link that tells its input, which no `put` changes

    module _
        (idle : before.state ≡ at.Idle) (fits : length before.room ≤ head_room) (used : ℕ) (stands : StandsInRoom before.room turn (drop used before.room))
        (allowed : IsAllowed answer turn) (faults faults_now : ℕ) (fault : meets_store_fault turn ≡ true → Rose faults faults_now)
        (put : Put) (left left_now written written_now : Option (List ℕ)) (kept : left_now ≡ left) (is : IsPut head_text rest_text written written_now put)
      where
        told : (after : SessionValue C × turn_of.Turn) → ((text : List ℕ) → IsPut head_text rest_text (Some text) written_now put → Put_as after (drop used before.room) text written_now) →
            IsToldBy (λ input over text. Replied answer rest before after.0 input over text faults faults_now after.1 turn) left left_now written written_now
        told after did = λ input text left_is written_is.
            let one = did text (subst (λ (w : Option (List ℕ)). IsPut head_text rest_text w written_now put) written_is is) in (
              one.0,
              input,
              kept ∙ left_is,
              one.1,
              record { idle = idle; fits = fits; over = drop used before.room; stands = stands; allowed = allowed; fault = fault; kept = refl; replied = one.2 },
            )

        abbrev Did : SessionValue C × turn_of.Turn → Type 0
        Did after = IsToldBy (λ input over text. Replied answer rest before after.0 input over text faults faults_now after.1 turn) left left_now written written_now

        pub put_did : (close : Bool) (now : SessionValue C) (went : turn_of.Turn) → tail ≡ [] → why_after answer (before.requests + 1) turn ≡ (if close then Some why.Closed else None) →
            (now, went) ≡ after_put before used put close → Did (now, went)
        put_did close now went none ends after =
            subst Did (sym after) (told (after_put before used put close) (λ text was. replied_put put close used text written_now none ends was))

        pub begin_did : (h : RequestHead) (sending : Sending C) (bytes : List ℕ) (now : SessionValue C) (went : turn_of.Turn) → rest_text ≡ [] → turn ≡ request h due →
            IsBodyOf answer rest (before.requests + 1) h sending [] bytes → (now, went) ≡ after_begin before used put sending → Did (now, went)
        begin_did h sending bytes now went none is_due begun after =
            subst Did (sym after) (told (after_begin before used put sending) (λ text was. replied_begin put h sending bytes used text written_now none is_due begun was))
