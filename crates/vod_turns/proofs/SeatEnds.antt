-- What sessions in seats have done at the end of their turns.
use Rattle.std.proofs.Common.{◌≡◌, ℕ, zero, suc, ◌-◌, ◌^◌, ◌<◌, List, [], ◌∷◌, ◌++◌, length, take, drop, map, Option, Some, None, refl, sym, ap, ◌∙◌, subst, inl, inr, arith}
use Rattle.std.specs.Prelude.{◌==◌, slice_get, slice_index}
use Rattle.std.proofs.lemmas.List.{append-nil, take_all}
use Rattle.std.proofs.Math.ListN.{drop_of_length-le}
use Rattle.std.proofs.lemmas.List.Sums.{count_by-le-length}
use Rattle.std.proofs.lemmas.Option.{slice_get_within, slice_get_cases}
use Rattle.vod_types.specs.declared.paths.ByteRange.{ByteRange}
use Rattle.list_model.specs.Reply.{Answer}
use Rattle.vod_http.specs.Answered.{Rest}
use Rattle.vod_session.specs.declared.state.LinkEnd.{LinkEnd}
use Rattle.vod_session.specs.Calls.{AreAnswers}
use Rattle.vod_session.specs.Sessions.{SessionValue}
use Rattle.vod_session.specs.Steps.{Answers}
use Rattle.vod_turns.specs.declared.link_state.LinkState.{LinkState}
use Rattle.vod_turns.specs.declared.seats.Seat.{Seat}
use Rattle.vod_turns.specs.Causes.{HaveCauses}
use Rattle.vod_turns.specs.Seats.{AreEnds, AreOver, AreSeated, AreStates, HasDone, IsSeated, state_of}
use Rattle.vod_turns.specs.Turns.{AreServed, AreTurned, HasCome, IsTurned, times}
use Rattle.vod_turns.proofs.SeatLemmas.{front_more}
use Rattle.vod_turns.proofs.TurnLemmas.{at_front}

-- a list that was written over whole
pub whole_new : {X : Type 0} (new old : List X) (n : ℕ) → length new ≡ length old → n ≡ length old → take n (new ++ drop (length new) old) ≡ new
whole_new new old n long all =
    let past : drop (length new) old ≡ [] = drop_of_length-le old (omega (arith, long)) in
    subst (λ (xs : List _). take n (new ++ xs) ≡ new) (sym past)
    (subst (λ (xs : List _). take n xs ≡ new) (sym (append-nil new)) (take_all n new (omega arith)))

-- there is an element at each place within
pub get_some : {X : Type 0} (xs : List X) (i : ℕ) → i < length xs → (x : X) × (slice_get xs i ≡ Some x)
get_some xs i within = elim (slice_get_cases xs i).1 [ inl is ↦ (is.0, is.2) | inr past ↦ absurd (omega (arith, past.0)) ]

get_map : {X Y : Type 0} (f : X → Y) (xs : List X) (i : ℕ) (y : Y) → slice_get (map f xs) i ≡ Some y → (x : X) × (slice_get xs i ≡ Some x) × (f x ≡ y)
get_map f [] i y is = absurd cc
get_map f (x ∷ xs) zero y is = (x, refl, cc)
get_map f (x ∷ xs) (suc i) y is = get_map f xs i y is

-- what was written by then is a front of an exchange
turned_of : {C : Type 0} (answer : Answers) (rest : C → Option Rest) (input text left : List ℕ) (session : SessionValue C) (turns met progress : ℕ) (o : Option LinkEnd) →
    HasDone answer rest input text left session turns met o → IsTurned answer input text left (record { progress = progress; end = o }) turns met
turned_of answer rest input text left session turns met progress None done =
    record { front = front_more answer input text done.0 met (turns - 1) (turns - 1) done.1 (omega arith) (at_front answer rest input text left session turns done.0 done.2 left text session 0 0); ended = tt; taken = done.2.taken }
turned_of answer rest input text left session turns met progress (Some end) done = record { front = done.1; ended = done.0; taken = done.2 }

module _
    {L C : Type 0} (left written : L → Option (List ℕ)) (count : L → ℕ) (tells : List ℕ → Option ByteRange → Option Answer) (rest : C → Option Rest)
    (links links_now : List L) (seats : List (Seat C)) (turns : ℕ → ℕ) (faults faults_now : ℕ)
    (are : AreSeated left written count tells rest links links_now seats turns faults faults_now) (same : length links_now ≡ length links) (seated : length seats ≡ length links) where
  -- the seat of each place
  abbrev AtPlace : ℕ → Type 0
  AtPlace i = (link link_now : L) × (seat : Seat C) × (slice_get links i ≡ Some link) × (slice_get links_now i ≡ Some link_now) × (slice_get seats i ≡ Some seat)
      × IsSeated left written count tells rest link link_now seat (turns i) (slice_index are.met i) faults faults_now

  at_place : (i : ℕ) → i < length links → AtPlace i
  at_place i within =
      let link = get_some links i within in
      let now = get_some links_now i (omega (arith, same)) in
      let seat = get_some seats i (omega (arith, seated)) in
      (link.0, now.0, seat.0, link.1, now.1, seat.1, are.each i link.0 now.0 seat.0 link.1 now.1 seat.1)

  pub links_untouched : (i : ℕ) → turns i ≡ 0 → slice_get links_now i ≡ slice_get links i
  links_untouched i none = elim (slice_get_cases links i).1 [
    | inl is ↦
        let at = at_place i is.1 in
        at.4 ∙ ap (λ (l : L). Some l) (at.6.untouched none) ∙ sym at.3
    | inr past ↦ elim (slice_get_cases links_now i).1 [ inl is ↦ absurd (let within = is.1 in omega (arith, past.0, same)) | inr none_now ↦ none_now.1 ∙ sym past.1 ]
  ]

  module _ (states : List LinkState) (many : length states ≡ length seats) (told : AreStates seats states) where
    -- the state of each place
    state_at : (i : ℕ) (state : LinkState) → slice_get states i ≡ Some state → (at : AtPlace i) × (state ≡ state_of at.2)
    state_at i state is =
        let within = slice_get_within states i state is in
        let at = at_place i (omega (arith, many, seated)) in
        (at, told i at.2 state at.5 is)

    pub links_turned : (answer : Answers) → AreAnswers tells answer → (order : List ℕ) → ((i : ℕ) → turns i ≡ times i order) →
        AreTurned answer left written links links_now states order faults faults_now
    links_turned answer answers order named = record {
      met = are.met;
      together = are.together;
      each = λ i link link_now state link_is now_is state_is input text all wrote.
          let within = slice_get_within links i link link_is in
          let seat = get_some seats i (omega (arith, seated)) in
          let is = are.each i link link_now seat.0 link_is now_is seat.1 in
          let did = is.told answer answers input text all wrote in
          let turned = turned_of answer rest input did.0 did.1 seat.0.session (turns i) (slice_index are.met i) seat.0.session.progress seat.0.end did.4 in
          let same_state = told i seat.0 state seat.1 state_is in
          let of_state = subst (λ (s : LinkState). IsTurned answer input did.0 did.1 s (turns i) (slice_index are.met i)) (sym same_state) turned in
          (did.0, did.1, did.2, did.3, subst (λ (t : ℕ). IsTurned answer input did.0 did.1 state t (slice_index are.met i)) (named i) of_state);
    }

    pub links_come : (order : List ℕ) → length order < 2 ^ 64 → ((i : ℕ) → turns i ≡ times i order) → HasCome order states
    links_come order small named i state is goes =
        let found = state_at i state is in
        let at = found.0 in
        let none = sym (ap (λ (s : LinkState). s.end) found.1) ∙ goes in
        let come = at.6.come none in
        let progress = ap (λ (s : LinkState). s.progress) found.1 in
        let few = count_by-le-length (λ n. n == i) order in
        omega (arith, come, progress, few, named i)

    pub links_causes : HaveCauses count links links_now (map (λ (state : LinkState). state.end) states) faults faults_now
    links_causes = record {
      link = λ i before now end before_is now_is end_is failed.
          let got = get_map (λ (state : LinkState). state.end) states i (Some end) end_is in
          let within = slice_get_within links i before before_is in
          let seat = get_some seats i (omega (arith, seated)) in
          let same_state = told i seat.0 got.0 seat.1 got.1 in
          (are.each i before now seat.0 before_is now_is seat.1).link_failed end (sym (ap (λ (s : LinkState). s.end) same_state) ∙ got.2) failed;
      store = λ i end end_is failed.
          let got = get_map (λ (state : LinkState). state.end) states i (Some end) end_is in
          let found = state_at i got.0 got.1 in
          found.0.6.store_failed end (sym (ap (λ (s : LinkState). s.end) found.1) ∙ got.2) failed;
      memory = λ i end end_is.
          let got = get_map (λ (state : LinkState). state.end) states i (Some end) end_is in
          let found = state_at i got.0 got.1 in
          found.0.6.memory end (sym (ap (λ (s : LinkState). s.end) found.1) ∙ got.2);
    }

  module _ (ends : List LinkEnd) (over : AreOver seats) (told : AreEnds seats ends) where
    end_at : (i : ℕ) (seat : Seat C) (end : LinkEnd) → slice_get seats i ≡ Some seat → slice_get ends i ≡ Some end → seat.end ≡ Some end
    end_at i seat end is end_is = let o = over i seat is in o.1 ∙ ap (λ (e : LinkEnd). Some e) (sym (told i seat o.0 end is end_is o.1))

    pub links_served : (answer : Answers) → AreAnswers tells answer → AreServed answer left written links links_now ends faults faults_now
    links_served answer answers = record {
      met = are.met;
      together = are.together;
      each = λ i link link_now end link_is now_is end_is input text all wrote.
          let within = slice_get_within links i link link_is in
          let seat = get_some seats i (omega (arith, seated)) in
          let is = are.each i link link_now seat.0 link_is now_is seat.1 in
          let did = is.told answer answers input text all wrote in
          let done = subst (λ (o : Option LinkEnd). HasDone answer rest input did.0 did.1 seat.0.session (turns i) (slice_index are.met i) o) (end_at i seat.0 end seat.1 end_is) did.4 in
          (did.0, did.3, done.0);
    }

    pub served_causes : length ends ≡ length seats → HaveCauses count links links_now (map (λ (end : LinkEnd). Some end) ends) faults faults_now
    served_causes many = record {
      link = λ i before now end before_is now_is end_is failed.
          let got = get_map (λ (e : LinkEnd). Some e) ends i (Some end) end_is in
          let within = slice_get_within links i before before_is in
          let seat = get_some seats i (omega (arith, seated)) in
          (are.each i before now seat.0 before_is now_is seat.1).link_failed end (end_at i seat.0 got.0 seat.1 got.1 ∙ got.2) failed;
      store = λ i end end_is failed.
          let got = get_map (λ (e : LinkEnd). Some e) ends i (Some end) end_is in
          let within = slice_get_within ends i got.0 got.1 in
          let at = at_place i (omega (arith, many, seated)) in
          at.6.store_failed end (end_at i at.2 got.0 at.5 got.1 ∙ got.2) failed;
      memory = λ i end end_is.
          let got = get_map (λ (e : LinkEnd). Some e) ends i (Some end) end_is in
          let within = slice_get_within ends i got.0 got.1 in
          let at = at_place i (omega (arith, many, seated)) in
          at.6.memory end (end_at i at.2 got.0 at.5 got.1 ∙ got.2);
    }
