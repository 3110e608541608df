-- Sessions in seats: what one turn of one of them does.
use Rattle.std.proofs.Common.{◌≡◌, ◌≢◌, ℕ, zero, suc, ◌+◌, ◌-◌, ◌^◌, ◌<◌, ◌≤◌, ◌⊎◌, Bool, false, IsTrue, List, [], ◌∷◌, ◌++◌, length, take, set, get_or, replicate, Option, Some, None, refl, sym, ap, ◌∙◌, subst, inl, inr, arith, append_assoc, length-set, get_or-set_same, get_or-set_other, eq-eqb, cond, add-zero}
use Rattle.std.specs.Prelude.{◌==◌, sum, sum_by, slice_get}
use Rattle.std.proofs.lemmas.List.{append-nil, length-replicate, get_or-replicate}
use Rattle.std.proofs.lemmas.List.Folds.{sum_by-replicate}
use Rattle.std.proofs.lemmas.Bool.Decides.{nat_tests}
use Rattle.std.proofs.lemmas.List.Sums.{sum_by-set, count_by_more_yes, count_by_more_no}
use Rattle.std.proofs.lemmas.Option.{slice_get_within, get_or_from_slice_get}
use Rattle.vod_types.specs.declared.paths.ByteRange.{ByteRange}
use Rattle.list_model.specs.declared.Why.TheVariants as why
use Rattle.list_model.specs.Exchange.{IsServed}
use Rattle.list_model.specs.Reply.{Answer}
use Rattle.vod_source.specs.Causes.{Rose}
use Rattle.vod_http.specs.Answered.{Rest}
use Rattle.vod_session.specs.declared.state.LinkEnd.{LinkEnd}
use Rattle.vod_session.specs.declared.state.Turn.TheVariants.{Again, Ended}
use Rattle.vod_session.specs.Calls.{AreAnswers, IsToldStep}
use Rattle.vod_session.specs.Sessions.{SessionValue, SendsOnly, fresh, is_under_way, steps_left}
use Rattle.vod_session.specs.Steps.{Answers}
use Rattle.vod_session.specs.Histories.{IsFront, IsMet}
use Rattle.vod_session.proofs.ServingLemmas.{on_tells}
use Rattle.vod_turns.specs.declared.seats.Seat.{Seat}
use Rattle.vod_turns.specs.Histories.{IsAtTurn}
use Rattle.vod_turns.specs.Seats.{AreFresh, AreReady, AreSeated, Falls, HasDone, IsNext, IsReady, IsSeated, left_at, risen}
use Rattle.vod_turns.specs.Turns.{times}
use Rattle.vod_turns.proofs.TurnLemmas.{at_start, at_next, at_end}

-- ---- more turns and more failures allowed

pub front_more : (answer : Answers) (input text : List ℕ) (met met_now most most_now : ℕ) → met ≤ met_now → most ≤ most_now → IsFront answer input text met most → IsFront answer input text met_now most_now
front_more answer input text met met_now most most_now more turns front = record {
  turns = front.turns;
  rest = front.rest;
  more = front.more;
  turns_are = front.turns_are;
  allowed = front.allowed;
  met_are = omega (arith, front.met_are);
  few = omega (arith, front.few);
  front_is = front.front_is;
}

served_more : (answer : Answers) (input text : List ℕ) (end : LinkEnd) (met met_now : ℕ) → met ≤ met_now → IsServed answer input text end.requests end.why 0 met → IsServed answer input text end.requests end.why 0 met_now
served_more answer input text end met met_now more served = record {
  turns = served.turns;
  rest = served.rest;
  turns_are = served.turns_are;
  allowed = served.allowed;
  faults = λ below. let few = served.faults (omega arith) in omega arith;
  counted = served.counted;
  no_more = served.no_more;
  heads = served.heads;
  replies = served.replies;
  whole_unless_link_failed = served.whole_unless_link_failed;
}

rose_more : (before now later : ℕ) → now ≤ later → Rose before now → Rose before later
rose_more before now later more rose = omega arith

done_more : {C : Type 0} (answer : Answers) (rest : C → Option Rest) (input text left : List ℕ) (session : SessionValue C) (turns met met_now : ℕ) (end : Option LinkEnd) → met ≤ met_now →
    HasDone answer rest input text left session turns met end → HasDone answer rest input text left session turns met_now end
done_more answer rest input text left session turns met met_now None more done = (done.0, omega (arith, done.1), done.2)
done_more answer rest input text left session turns met met_now (Some end) more done =
    (served_more answer input text end met met_now more done.0, front_more answer input text met met_now (turns - 1) (turns - 1) more (omega arith) done.1, done.2)

-- a turn more of a session that is over
done_idle : {C : Type 0} (answer : Answers) (rest : C → Option Rest) (input text left : List ℕ) (session : SessionValue C) (turns met met_now : ℕ) (o : Option LinkEnd) (end : LinkEnd) → o ≡ Some end → met ≤ met_now →
    HasDone answer rest input text left session turns met o → HasDone answer rest input text left session (turns + 1) met_now o
done_idle answer rest input text left session turns met met_now None end is more done = absurd (cc)
done_idle answer rest input text left session turns met met_now (Some e) end is more done =
    (served_more answer input text e met met_now more done.0, front_more answer input text met met_now (turns - 1) (turns + 1 - 1) more (omega arith) done.1, omega (arith, done.2))

-- a failure of the store is counted
met_risen : (m m_now met before now : ℕ) → m ≤ met → before ≤ now → IsMet m m_now before now → m_now ≤ met + risen before now
met_risen m m_now met before now within later (inl same) = omega arith
met_risen m m_now met before now within later (inr more) = let is = more.0 in let rose = more.1 in omega arith

risen_within : (faults all before now : ℕ) → before ≤ now → (before < 2 ^ 64 - 1 → faults + all ≤ before) → now < 2 ^ 64 - 1 → faults + (all + risen before now) ≤ now
risen_within faults all before now later within below = let were = within (omega arith) in omega arith

-- ---- one seat

module _
    {L C : Type 0} (left written : L → Option (List ℕ)) (count : L → ℕ) (tells : List ℕ → Option ByteRange → Option Answer) (rest : C → Option Rest)
    (first link link_now : L) (seat : Seat C) (turns met faults before now : ℕ)
    (is : IsSeated left written count tells rest first link seat turns met faults before) (later : before ≤ now) where
  -- another session took its turn
  pub seat_more : (met_now : ℕ) → met ≤ met_now → IsSeated left written count tells rest first link seat turns met_now faults now
  seat_more met_now more = record {
    counted = omega (arith, is.counted);
    come = is.come;
    untouched = is.untouched;
    later = is.later;
    link_failed = is.link_failed;
    store_failed = λ end e failed. rose_more faults before now later (is.store_failed end e failed);
    memory = is.memory;
    told = λ answer told input text all wrote.
        let were = is.told answer told input text all wrote in
        (were.0, were.1, were.2, were.3, done_more answer rest input were.0 were.1 seat.session turns met met_now seat.end more were.4);
  }

  -- a turn of a session that is over
  pub seat_idle : (end : LinkEnd) → seat.end ≡ Some end → IsSeated left written count tells rest first link seat (turns + 1) (met + risen before now) faults now
  seat_idle end over = record {
    counted = omega (arith, is.counted);
    come = λ none. absurd (let two : None ≡ Some end = sym none ∙ over in cc);
    untouched = λ none. absurd (omega arith);
    later = is.later;
    link_failed = is.link_failed;
    store_failed = λ e is_end failed. rose_more faults before now later (is.store_failed e is_end failed);
    memory = is.memory;
    told = λ answer told input text all wrote.
        let were = is.told answer told input text all wrote in
        (were.0, were.1, were.2, were.3, done_idle answer rest input were.0 were.1 seat.session turns met (met + risen before now) seat.end end over (omega arith) were.4);
  }

  -- a step of a session that is under way
  module _ (session : SessionValue C) (none : seat.end ≡ None) (link_later : count link ≤ count link_now) where
    no_end : (end : LinkEnd) → seat.end ≡ Some end → ⊥
    no_end end over = let two : None ≡ Some end = sym none ∙ over in cc

    pub seat_again : ((answer : Answers) → AreAnswers tells answer → IsToldStep answer rest seat.session session (left link) (left link_now) (written link) (written link_now) before now Again) →
        Rose seat.session.progress session.progress →
        IsSeated left written count tells rest first link_now (record { session = session; end = seat.end }) (turns + 1) (met + risen before now) faults now
    seat_again did rose = record {
      counted = omega (arith, is.counted);
      come = λ same. let were = is.come none in omega (arith, were, rose);
      untouched = λ zero. absurd (omega arith);
      later = omega (arith, is.later);
      link_failed = λ end e failed. absurd (no_end end e);
      store_failed = λ end e failed. absurd (no_end end e);
      memory = λ end e failed. no_end end e;
      told = λ answer told input text all wrote.
          let were = is.told answer told input text all wrote in
          let at = subst (λ (o : Option LinkEnd). HasDone answer rest input were.0 were.1 seat.session turns met o) none were.4 in
          let step = did answer told were.1 (text ++ were.0) were.2 were.3 (on_tells answer rest input were.0 were.1 seat.session at.0 at.2.on) in
          let next = at_next answer rest input were.0 were.1 seat.session turns at.0 at.2 step.1 step.0 session before now step.4 in (
            were.0 ++ step.0,
            step.1,
            step.2,
            step.3 ∙ ap (λ (bytes : List ℕ). Some bytes) (append_assoc text were.0 step.0),
            subst (λ (o : Option LinkEnd). HasDone answer rest input (were.0 ++ step.0) step.1 session (turns + 1) (met + risen before now) o) (sym none)
                (next.0, met_risen at.0 next.0 met before now at.1 later next.1, next.2),
          );
    }

    pub seat_ends : (end : LinkEnd) →
        ((answer : Answers) → AreAnswers tells answer → IsToldStep answer rest seat.session session (left link) (left link_now) (written link) (written link_now) before now (Ended end)) →
        (end.why ≡ why.LinkFailed → Rose (count link) (count link_now)) → (end.why ≡ why.StoreFailed → Rose before now) → end.why ≢ why.NoMemory →
        IsSeated left written count tells rest first link_now (record { session = session; end = Some end }) (turns + 1) (met + risen before now) faults now
    seat_ends end did link_failed store_failed memory = record {
      counted = omega (arith, is.counted);
      come = λ same. absurd cc;
      untouched = λ zero. absurd (omega arith);
      later = omega (arith, is.later);
      link_failed = λ e same failed. let same_end : end ≡ e = cc in let rose = link_failed (ap (λ (x : LinkEnd). x.why) same_end ∙ failed) in omega (arith, is.later, rose);
      store_failed = λ e same failed. let same_end : end ≡ e = cc in let rose = store_failed (ap (λ (x : LinkEnd). x.why) same_end ∙ failed) in omega (arith, is.counted, rose);
      memory = λ e same failed. let same_end : end ≡ e = cc in memory (ap (λ (x : LinkEnd). x.why) same_end ∙ failed);
      told = λ answer told input text all wrote.
          let were = is.told answer told input text all wrote in
          let at = subst (λ (o : Option LinkEnd). HasDone answer rest input were.0 were.1 seat.session turns met o) none were.4 in
          let step = did answer told were.1 (text ++ were.0) were.2 were.3 (on_tells answer rest input were.0 were.1 seat.session at.0 at.2.on) in
          let last = at_end answer rest input were.0 were.1 seat.session turns at.0 at.2 step.1 step.0 session before now end step.4 in
          let within = met_risen at.0 last.0 met before now at.1 later last.1 in (
            were.0 ++ step.0,
            step.1,
            step.2,
            step.3 ∙ ap (λ (bytes : List ℕ). Some bytes) (append_assoc text were.0 step.0),
            (
              served_more answer input (were.0 ++ step.0) end last.0 (met + risen before now) within last.2,
              front_more answer input (were.0 ++ step.0) last.0 (met + risen before now) turns (turns + 1 - 1) within (omega arith) last.3,
              last.4,
            ),
          );
    }

-- ---- all seats

-- what stands at a place, once one element is another
pub get_set : {X : Type 0} (xs : List X) (n i : ℕ) (y x : X) → slice_get (set xs n y) i ≡ Some x → ((i ≡ n) × (y ≡ x)) ⊎ ((i ≢ n) × (slice_get xs i ≡ Some x))
get_set [] n i y x is = absurd cc
get_set (z ∷ xs) zero zero y x is = inl (refl, cc)
get_set (z ∷ xs) zero (suc i) y x is = inr (λ e. absurd (omega arith), is)
get_set (z ∷ xs) (suc n) zero y x is = inr (λ e. absurd (omega arith), is)
get_set (z ∷ xs) (suc n) (suc i) y x is = elim (get_set xs n i y x is) [ inl both ↦ inl (ap suc both.0, both.1) | inr other ↦ inr (λ e. other.0 (omega arith), other.1) ]

pub ready_set : {C : Type 0} (belongs : C → Type 0) (runs in_packets : C → Bool) (seats : List (Seat C)) (n : ℕ) (seat : Seat C) →
    AreReady belongs runs in_packets seats → IsReady belongs runs in_packets seat → AreReady belongs runs in_packets (set seats n seat)
ready_set {C = C} belongs runs in_packets seats n seat all here i s is = elim (get_set seats n i seat s is) [
  | inl both ↦ subst (λ (x : Seat C). IsReady belongs runs in_packets x) both.1 here
  | inr other ↦ all i s other.1
]

module _
    {L C : Type 0} (left written : L → Option (List ℕ)) (count : L → ℕ) (tells : List ℕ → Option ByteRange → Option Answer) (rest : C → Option Rest)
    (first links : List L) (seats : List (Seat C)) (turns turns_now : ℕ → ℕ) (n faults before now : ℕ) (later : before ≤ now)
    (within : n < length links) (same : length first ≡ length links) (next : IsNext n turns turns_now)
    (are : AreSeated left written count tells rest first links seats turns faults before) (link link_now : L) (seat seat_now : Seat C)
    (link_is : slice_get links n ≡ Some link) (seat_is : slice_get seats n ≡ Some seat)
    (turned : (f : L) (t m : ℕ) → IsSeated left written count tells rest f link seat t m faults before →
    IsSeated left written count tells rest f link_now seat_now (t + 1) (m + risen before now) faults now) where
  met_now : List ℕ
  met_now = set are.met n (get_or are.met n 0 + risen before now)

  here : (i : ℕ) (f l : L) (s : Seat C) → i ≡ n → link_now ≡ l → seat_now ≡ s → slice_get first i ≡ Some f →
      IsSeated left written count tells rest f l s (turns_now i) (get_or met_now i 0) faults now
  unfolding met_now
  here i f l s at l_is s_is f_is =
      let f_at : slice_get first n ≡ Some f = subst (λ (k : ℕ). slice_get first k ≡ Some f) at f_is in
      let long : n < length are.met = omega (arith, are.long) in
      let did = turned f (turns n) (get_or are.met n 0) (are.each n f link seat f_at link_is seat_is) in
      let meets = subst (λ (m : ℕ). IsSeated left written count tells rest f link_now seat_now (turns n + 1) m faults now) (sym (get_or-set_same are.met n (get_or are.met n 0 + risen before now) 0 long)) did in
      let turned_now = subst (λ (t : ℕ). IsSeated left written count tells rest f link_now seat_now t (get_or met_now n 0) faults now) (sym next.more) meets in
      let linked = subst (λ (x : L). IsSeated left written count tells rest f x seat_now (turns_now n) (get_or met_now n 0) faults now) l_is turned_now in
      let sat = subst (λ (x : Seat C). IsSeated left written count tells rest f l x (turns_now n) (get_or met_now n 0) faults now) s_is linked in
      subst (λ (k : ℕ). IsSeated left written count tells rest f l s (turns_now k) (get_or met_now k 0) faults now) (sym at) sat

  there : (i : ℕ) (f l : L) (s : Seat C) → i ≢ n → slice_get first i ≡ Some f → slice_get links i ≡ Some l → slice_get seats i ≡ Some s →
      IsSeated left written count tells rest f l s (turns_now i) (get_or met_now i 0) faults now
  unfolding met_now
  there i f l s other f_is l_is s_is =
      let were = seat_more left written count tells rest f l l s (turns i) (get_or are.met i 0) faults before now (are.each i f l s f_is l_is s_is) later (get_or are.met i 0) (omega arith) in
      let meets = subst (λ (m : ℕ). IsSeated left written count tells rest f l s (turns i) m faults now) (sym (get_or-set_other are.met n i (get_or are.met n 0 + risen before now) 0 other)) were in
      subst (λ (t : ℕ). IsSeated left written count tells rest f l s t (get_or met_now i 0) faults now) (sym (next.others i other)) meets

  all_met : sum met_now ≡ sum are.met + risen before now
  unfolding met_now
  all_met =
      let long : n < length are.met = omega (arith, are.long) in
      omega (arith, sum_by-set (λ x. x) are.met n (get_or are.met n 0 + risen before now) 0 long)

  pub seats_next : AreSeated left written count tells rest first (set links n link_now) (set seats n seat_now) turns_now faults now
  unfolding met_now
  seats_next = record {
    met = met_now;
    long = length-set are.met n (get_or are.met n 0 + risen before now) ∙ are.long;
    each = λ i f l s f_is l_is s_is. elim (get_set links n i link_now l l_is) [
      | inl at ↦ elim (get_set seats n i seat_now s s_is) [ inl sits ↦ here i f l s at.0 at.1 sits.1 f_is | inr other ↦ absurd (other.0 at.0) ]
      | inr at ↦ elim (get_set seats n i seat_now s s_is) [ inl sits ↦ absurd (at.0 sits.0) | inr other ↦ there i f l s at.0 f_is at.1 other.1 ]
    ];
    together = λ below. let all = risen_within faults (sum are.met) before now later are.together below in omega (arith, all, all_met);
  }

-- ---- the start and the end

-- what stands at a place, with one element more
get_push : {X : Type 0} (xs : List X) (y x : X) (i : ℕ) → slice_get (xs ++ y ∷ []) i ≡ Some x → (slice_get xs i ≡ Some x) ⊎ (y ≡ x)
get_push [] y x zero is = inr cc
get_push [] y x (suc i) is = absurd cc
get_push (z ∷ xs) y x zero is = inl is
get_push (z ∷ xs) y x (suc i) is = get_push xs y x i is

pub fresh_push : {C : Type 0} (seats : List (Seat C)) (session : SessionValue C) → AreFresh seats → session ≡ fresh C → AreFresh (seats ++ record { session = session; end = None } ∷ [])
fresh_push {C = C} seats session all is i seat here = elim (get_push seats (record { session = session; end = None }) seat i here) [
  | inl old ↦ all i seat old
  | inr new ↦ (sym (ap (λ (s : Seat C). s.session) new) ∙ is, sym (ap (λ (s : Seat C). s.end) new))
]

pub fresh_ready : {C : Type 0} (belongs : C → Type 0) (runs in_packets : C → Bool) (seats : List (Seat C)) → AreFresh seats → AreReady belongs runs in_packets seats
fresh_ready {C = C} belongs runs in_packets seats all i seat here =
    let both = all i seat here in
    record {
      goes_on = λ none. subst (λ (s : SessionValue C). IsTrue (is_under_way s.state)) (sym both.0) refl;
      sends = subst (λ (s : SessionValue C). SendsOnly belongs runs in_packets s.state) (sym both.0) tt;
    }

module _
    {L C : Type 0} (left written : L → Option (List ℕ)) (count : L → ℕ) (tells : List ℕ → Option ByteRange → Option Answer) (rest : C → Option Rest) where
  seat_start : (link : L) (seat : Seat C) (faults : ℕ) → seat.session ≡ fresh C → seat.end ≡ None → IsSeated left written count tells rest link link seat 0 0 faults faults
  seat_start link seat faults is none = record {
    counted = omega arith;
    come = λ same. omega arith;
    untouched = λ zero. refl;
    later = omega arith;
    link_failed = λ end over failed. absurd (not_over end over);
    store_failed = λ end over failed. absurd (not_over end over);
    memory = λ end over failed. not_over end over;
    told = λ answer told input text all wrote. (
      [],
      input,
      all,
      wrote ∙ ap (λ (bytes : List ℕ). Some bytes) (sym (append-nil text)),
      subst (λ (o : Option LinkEnd). HasDone answer rest input [] input seat.session 0 0 o) (sym none)
          (0, omega arith, subst (λ (s : SessionValue C). IsAtTurn answer rest input [] input s 0 0) (sym is) (at_start answer rest input)),
    );
  }
    where
      not_over : (end : LinkEnd) → seat.end ≡ Some end → ⊥
      not_over end over = let two : None ≡ Some end = sym none ∙ over in cc

  pub seats_start : (links : List L) (seats : List (Seat C)) (turns : ℕ → ℕ) (faults : ℕ) → AreFresh seats → ((i : ℕ) → turns i ≡ 0) →
      AreSeated left written count tells rest links links seats turns faults faults
  seats_start links seats turns faults all none = record {
    met = replicate (length links) 0;
    long = length-replicate (length links) 0;
    each = λ i link link_now seat link_is now_is seat_is.
        let same : link ≡ link_now = let two : Some link ≡ Some link_now = sym link_is ∙ now_is in cc in
        let within = slice_get_within links i link link_is in
        let start = seat_start link seat faults (all i seat seat_is).0 (all i seat seat_is).1 in
        let linked = subst (λ (l : L). IsSeated left written count tells rest link l seat 0 0 faults faults) same start in
        let turned = subst (λ (t : ℕ). IsSeated left written count tells rest link link_now seat t 0 faults faults) (sym (none i)) linked in
        subst (λ (m : ℕ). IsSeated left written count tells rest link link_now seat (turns i) m faults faults) (sym (get_or-replicate (length links) i 0 0 within)) turned;
    together = λ below. omega (arith, sum_by-replicate (λ x. x) (length links) 0);
  }

-- a number of the order is one turn of its session
pub next_of_order : (order : List ℕ) (k d : ℕ) → k < length order → IsNext (get_or order k d) (λ i. times i (take k order)) (λ i. times i (take (k + 1) order))
next_of_order order k d within = record {
  more = count_by_more_yes (λ n. n == get_or order k d) order k d within (eq-eqb (get_or order k d) (get_or order k d) refl);
  others = λ i other. count_by_more_no (λ n. n == i) order k d within (not_same (get_or order k d) i other);
}
  where
    not_same : (a b : ℕ) → b ≢ a → (a == b) ≡ false
    not_same a b other = grind (arith, nat_tests)

-- ---- what is left

pub falls_over : (o : Option LinkEnd) (end : LinkEnd) (n : ℕ) → o ≡ Some end → Falls o n n
falls_over o end n over = (omega arith, λ none. absurd (let two : None ≡ Some end = sym none ∙ over in cc))

module _ {C : Type 0} (calls_left : C → ℕ) (before now : SessionValue C) (o : Option LinkEnd) (none : o ≡ None) where
  pub falls_again : steps_left calls_left now < steps_left calls_left before → Falls o (left_at calls_left before o) (left_at calls_left now o)
  falls_again fewer = subst (λ (e : Option LinkEnd). Falls o (left_at calls_left before e) (left_at calls_left now e)) (sym none) (omega (arith, fewer), λ n. omega (arith, fewer))

  pub falls_end : (end : LinkEnd) → Falls o (left_at calls_left before o) (left_at calls_left now (Some end))
  falls_end end = subst (λ (e : Option LinkEnd). Falls o (left_at calls_left before e) (left_at calls_left now (Some end))) (sym none) (omega arith, λ n. omega arith)

pub get_other : {X : Type 0} (xs : List X) (n i : ℕ) (y : X) → i ≢ n → slice_get (set xs n y) i ≡ slice_get xs i
get_other [] n i y other = refl
get_other (x ∷ xs) zero zero y other = absurd (other refl)
get_other (x ∷ xs) zero (suc i) y other = refl
get_other (x ∷ xs) (suc n) zero y other = refl
get_other (x ∷ xs) (suc n) (suc i) y other = get_other xs n i y (λ e. other (ap suc e))

pub all_fall : {C : Type 0} (f : Seat C → ℕ) (seats : List (Seat C)) (n : ℕ) (now d seat : Seat C) → n < length seats → Falls (get_or seats n d).end (f (get_or seats n d)) (f now) →
    slice_get seats n ≡ Some seat → Falls seat.end (sum_by f seats) (sum_by f (set seats n now))
all_fall {C = C} f seats n now d seat within falls is =
    let all = sum_by-set f seats n now d within in
    let same = get_or_from_slice_get seats n seat d is in
    (omega (arith, all, falls.0), λ none. let less = falls.1 (ap (λ (s : Seat C). s.end) same ∙ none) in omega (arith, all, less))

pub below_or_at : (k n : ℕ) → k < n + 1 → (k < n) ⊎ (k ≡ n)
below_or_at zero zero below = inr refl
below_or_at zero (suc n) below = inl (omega arith)
below_or_at (suc k) zero below = absurd (omega arith)
below_or_at (suc k) (suc n) below = elim (below_or_at k n (omega arith)) [ inl less ↦ inl (omega arith) | inr at ↦ inr (ap suc at) ]

-- one more turn of one seat
pub one_more : (n : ℕ) (turns : ℕ → ℕ) → IsNext n turns (λ i. turns i + cond (i == n) 1 0)
one_more n turns = record {
  more = ap (λ (b : Bool). turns n + cond b 1 0) (eq-eqb n n refl);
  others = λ i other. ap (λ (b : Bool). turns i + cond b 1 0) (not_same i n other) ∙ add-zero (turns i);
}
  where
    not_same : (a b : ℕ) → a ≢ b → (a == b) ≡ false
    not_same a b other = grind (arith, nat_tests)
