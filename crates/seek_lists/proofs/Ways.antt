-- Steps that each have turns on files: what they come to together, from a cache that may hold movies.
use Rattle.std.proofs.Common.{◌≡◌, ◌≢◌, ℕ, suc, ◌+◌, Bool, true, false, List, [], ◌∷◌, ◌++◌, take, Option, Result, Ok, Err, refl, sym, ap, ◌∙◌, subst, arith, append_assoc, append-nil}
use Rattle.std.specs.Prelude.{flat_map, is_err}
use Rattle.std.specs.List.{position_or_len}
use Rattle.vod_types.specs.declared.refusal.Refusal.{Refusal}
use Rattle.vod_types.specs.declared.refusal.Refusal.TheVariants.{NoMemory, StoreFailed}
use Rattle.vod_types.specs.Lists.{through_first}
use Rattle.vod_types.specs.Results.{◌>>=◌, each_in_turn}
use Rattle.vod_source.specs.Stored.{Files, Read}
use Rattle.origin_model.specs.Reads.{Cache}
use Rattle.flat_lists.specs.Steps.{names_through}
use Rattle.vod_plan.specs.Turned.{AreTurns}
use Rattle.vod_plan.proofs.CacheLemmas.{turned_all, turned_begin, turned_ended, turned_then}
use Rattle.seek_lists.specs.Turned.{IsTurned}
use Rattle.seek_lists.specs.Ways.{IsWay}

through_more : {X : Type 0} (test : X → Bool) (x : X) (xs : List X) → test x ≡ false → through_first test (x ∷ xs) ≡ x ∷ through_first test xs
through_more test x xs e =
    let n : 1 + position_or_len test xs + 1 ≡ suc (position_or_len test xs + 1) = omega arith in
    rw e (ap (λ (n : ℕ). take n (x ∷ xs)) n)

through_stop : {X : Type 0} (test : X → Bool) (x : X) (xs : List X) → test x ≡ true → through_first test (x ∷ xs) ≡ x ∷ []
through_stop test x xs e = rw e refl

module _ {X Y : Type 0} (files : Files) (due : X → Result Y Refusal) (names : X → List (List ℕ)) where
  abbrev fails : X → Bool
  fails x = is_err (due x)

  abbrev looked : List X → List (List ℕ)
  looked xs = names_through due names xs

  looked_good : (x : X) (later : List X) (y : Y) → due x ≡ Ok y → looked (x ∷ later) ≡ names x ++ looked later
  looked_good x later y e = ap (flat_map names) (through_more fails x later (ap (λ (r : Result Y Refusal). is_err r) e))

  -- the names of the first are looked at in any case
  looked_first : (x : X) (later : List X) → (rest : List (List ℕ)) × (looked (x ∷ later) ≡ names x ++ rest) × ((r : Refusal) → due x ≡ Err r → rest ≡ [])
  looked_first x later = by_step (due x) refl
    where
      by_step : (r : Result Y Refusal) → due x ≡ r → (rest : List (List ℕ)) × (looked (x ∷ later) ≡ names x ++ rest) × ((r : Refusal) → due x ≡ Err r → rest ≡ [])
      by_step (Ok y) e = (looked later, looked_good x later y e, λ r refused. absurd cc)
      by_step (Err r) e = ([], ap (flat_map names) (through_stop fails x later (ap (λ (r : Result Y Refusal). is_err r) e)), λ r refused. refl)

  abbrev taken : List X → List Y → Result Y Refusal → Result (List Y) Refusal
  taken later done r = (r >>= λ y. each_in_turn due later >>= λ ys. Ok (y ∷ ys)) >>= λ all. Ok (done ++ all)

  -- nothing is gained yet
  pub ways_begin : (all left : List X) (done : List Y) (held : Cache) (log : Option (List Read)) → all ≡ left → done ≡ [] → IsWay files due names all left done held held log log
  ways_begin all left done held log whole nothing =
      subst (λ (left : List X). IsWay files due names all left done held held log log) whole
      (subst (λ (done : List Y). IsWay files due names all all done held held log log) (sym nothing)
      (record { rest = same (each_in_turn due all); before = []; names_are = refl; turned = turned_begin files held log }))
    where
      same : (r : Result (List Y) Refusal) → r ≡ (r >>= λ later. Ok ([] ++ later))
      same (Ok ys) = refl
      same (Err e) = refl

  module _ (all : List X) (done : List Y) (held mid : Cache) (log log_mid : Option (List Read)) where
    module _ (x : X) (left later : List X) (at : left ≡ x ∷ later) (now : Cache) (log_now : Option (List Read)) (w : IsWay files due names all left done held mid log log_mid) where
      way : IsWay files due names all (x ∷ later) done held mid log log_mid
      way = subst (λ (left : List X). IsWay files due names all left done held mid log log_mid) at w

      -- one more is gained
      pub way_on : (y : Y) (more : List Y) → more ≡ done ++ y ∷ [] → IsTurned files (λ y. y) (due x) (names x) (Ok y) mid now log_mid log_now → IsWay files due names all later more held now log log_now
      way_on y more e step =
          subst (λ (more : List Y). IsWay files due names all later more held now log log_now) (sym e)
          (record {
            rest = way.rest ∙ ap (taken later done) step.answered ∙ moved (each_in_turn due later);
            before = way.before ++ names x;
            names_are = way.names_are ∙ ap (λ (ns : List (List ℕ)). way.before ++ ns) (looked_good x later y step.answered) ∙ sym (append_assoc way.before (names x) (looked later));
            turned = turned_then files tt (Ok tt) way.before (names x) held mid now log log_mid log_now way.turned (turned_all files y (Ok tt) (names x) mid now log_mid log_now step.turned);
          })
        where
          moved : (r : Result (List Y) Refusal) → ((r >>= λ ys. Ok (y ∷ ys)) >>= λ all. Ok (done ++ all)) ≡ (r >>= λ ys. Ok ((done ++ y ∷ []) ++ ys))
          moved (Ok ys) = ap Ok (sym (append_assoc done (y ∷ []) ys))
          moved (Err e) = refl

      module _ {V : Type 0} (view : V → List Y) where
        ended : (e : Refusal) → (e ≢ NoMemory → e ≢ StoreFailed → due x ≡ Err e) → AreTurns {X = V} files (names x) (Err e) mid now log_mid log_now
            → IsTurned files view (each_in_turn due all) (looked all) (Err e) held now log log_now
        ended e answered turned =
            let first = looked_first x later in
            let names_all : looked all ≡ way.before ++ (names x ++ first.0) = way.names_are ∙ ap (λ (ns : List (List ℕ)). way.before ++ ns) first.1 in
            record {
              answered = λ memory store. way.rest ∙ ap (taken later done) (answered memory store);
              turned = subst (λ (ns : List (List ℕ)). AreTurns {X = V} files ns (Err e) held now log log_now) (sym names_all)
                  (turned_then files tt (Err e) way.before (names x ++ first.0) held mid now log log_mid log_now way.turned
                  (turned_ended files V e (names x) first.0 mid now log_mid log_now turned (λ memory store. first.2 e (answered memory store))));
            }

        -- a step was refused, or cut short
        pub way_refused : (e : Refusal) → IsTurned {X = Y} files (λ y. y) (due x) (names x) (Err e) mid now log_mid log_now → IsTurned files view (each_in_turn due all) (looked all) (Err e) held now log log_now
        way_refused e step = ended e step.answered (record { logged = step.turned.logged; cache = step.turned.cache })

        -- what it gained found no room
        pub way_stopped : (y : Y) (e : Refusal) → e ≡ NoMemory → IsTurned files (λ y. y) (due x) (names x) (Ok y) mid now log_mid log_now → IsTurned files view (each_in_turn due all) (looked all) (Err e) held now log log_now
        way_stopped y e is step = ended e (λ memory. absurd (memory is)) (turned_all files y (Err e) (names x) mid now log_mid log_now step.turned)

    -- none is left
    pub way_whole : {V : Type 0} (view : V → List Y) (v : V) (left : List X) → left ≡ [] → view v ≡ done → IsWay files due names all left done held mid log log_mid
        → IsTurned files view (each_in_turn due all) (looked all) (Ok v) held mid log log_mid
    way_whole view v left none is w =
        let way = subst (λ (left : List X). IsWay files due names all left done held mid log log_mid) none w in
        record {
          answered = way.rest ∙ ap Ok (append-nil done ∙ sym is);
          turned = subst (λ (ns : List (List ℕ)). AreTurns files ns (Ok v) held mid log log_mid) (sym (way.names_are ∙ append-nil way.before))
              (turned_all files tt (Ok v) way.before held mid log log_mid way.turned);
        }
