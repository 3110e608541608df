-- Steps that each have turns on files: what they come to together.
use Rattle.std.proofs.Common.{◌≡◌, ◌≢◌, ℕ, suc, ◌+◌, Bool, true, false, List, [], ◌∷◌, ◌++◌, take, Option, Result, Ok, Err, refl, sym, ap, ◌∙◌, subst, arith, append_assoc, append-nil}
use Rattle.std.specs.Prelude.{flat_map, is_err}
use Rattle.std.specs.List.{position_or_len}
use Rattle.vod_types.specs.declared.refusal.Refusal.{Refusal}
use Rattle.vod_types.specs.declared.refusal.Refusal.TheVariants.{NoMemory, StoreFailed}
use Rattle.vod_types.specs.Lists.{through_first}
use Rattle.vod_types.specs.Results.{◌>>=◌, each_in_turn}
use Rattle.vod_source.specs.Calls.{Came}
use Rattle.vod_source.specs.Stored.{Files, Read}
use Rattle.vod_source.specs.Told.{told_with}
use Rattle.vod_source.proofs.CallLemmas.{LogsErr, logs_then, logs_ended}
use Rattle.vod_source.proofs.ToldLemmas.{told_with-nil, told_with-more, GrewByPrefix-whole}
use Rattle.origin_model.specs.Reads.{Cache, turn, turns}
use Rattle.flat_samples.specs.Movies.{HeldMovie, names_held}
use Rattle.flat_lists.specs.Steps.{IsStep, IsPath, names_through}

-- ---- lists through an element

through_stop : {X : Type 0} (test : X → Bool) (x : X) (xs : List X) → test x ≡ true → through_first test (x ∷ xs) ≡ x ∷ []
through_stop test x xs e = rw e refl

through_more : {X : Type 0} (test : X → Bool) (x : X) (xs : List X) → test x ≡ false → through_first test (x ∷ xs) ≡ x ∷ through_first test xs
through_more test x xs e =
    let n : 1 + position_or_len test xs + 1 ≡ suc (position_or_len test xs + 1) = omega arith in
    rw e (ap (λ (n : ℕ). take n (x ∷ xs)) n)

-- ---- turns on more files

module _ (files : Files) where
  pub turns-none : (cache : Cache) → (turns files cache []).reads ≡ []
  unfolding turns
  turns-none cache = refl

  pub turns-append : (cache : Cache) (names more : List (List ℕ)) → (turns files cache (names ++ more)).reads ≡ (turns files cache names).reads ++ (turns files (turns files cache names).cache more).reads
  unfolding turns
  turns-append cache [] more = refl
  turns-append cache (name ∷ names) more =
      ap (λ (reads : List Read). (turn files cache name).reads ++ reads) (turns-append (turn files cache name).cache names more)
      ∙ sym (append_assoc (turn files cache name).reads (turns files (turn files cache name).cache names).reads (turns files (turns files (turn files cache name).cache names).cache more).reads)

-- ---- what is left of the steps

module _ {X Y : Type 0} (files : Files) (due : X → Result Y Refusal) (names : X → List (List ℕ)) where
  abbrev fails : X → Bool
  fails x = is_err (due x)

  abbrev looked : List X → List (List ℕ)
  looked xs = names_through due names xs

  looked_good : (x : X) (later : List X) (y : Y) → due x ≡ Ok y → looked (x ∷ later) ≡ names x ++ looked later
  looked_good x later y e = ap (flat_map names) (through_more fails x later (ap (λ (r : Result Y Refusal). is_err r) e))

  looked_bad : (x : X) (later : List X) (r : Refusal) → due x ≡ Err r → looked (x ∷ later) ≡ names x ++ []
  looked_bad x later r e = ap (flat_map names) (through_stop fails x later (ap (λ (r : Result Y Refusal). is_err r) e))

  -- the names of the first are looked at in any case
  looked_first : (x : X) (later : List X) → (rest : List (List ℕ)) × (looked (x ∷ later) ≡ names x ++ rest) × ((r : Refusal) → due x ≡ Err r → rest ≡ [])
  looked_first x later = by_step (due x) refl
    where
      by_step : (r : Result Y Refusal) → due x ≡ r → (rest : List (List ℕ)) × (looked (x ∷ later) ≡ names x ++ rest) × ((r : Refusal) → due x ≡ Err r → rest ≡ [])
      by_step (Ok y) e = (looked later, looked_good x later y e, λ r refused. absurd cc)
      by_step (Err r) e = ([], looked_bad x later r e, λ r refused. refl)

  -- nothing is gained yet
  pub path_begins : (xs : List X) (held : List HeldMovie) (done : List Y) (log : Option (List Read)) → held ≡ [] → done ≡ [] → IsPath files due names xs xs held done log log
  path_begins xs held done log none nothing =
      subst (λ (held : List HeldMovie). IsPath files due names xs xs held done log log) (sym none)
      (subst (λ (done : List Y). IsPath files due names xs xs [] done log log) (sym nothing)
      (record {
        true_now = tt;
        rest = same (each_in_turn due xs);
        made = [];
        reads = refl;
        logged = sym (told_with-nil log);
      }))
    where
      same : (r : Result (List Y) Refusal) → r ≡ (r >>= λ later. Ok ([] ++ later))
      same (Ok ys) = refl
      same (Err e) = refl

  module _ (xs : List X) (held : List HeldMovie) (done : List Y) (log log_now : Option (List Read)) where
    module _ (x : X) (left later : List X) (at : left ≡ x ∷ later) (held_now : List HeldMovie) (log_then : Option (List Read)) (p : IsPath files due names xs left held done log log_now) where
      path : IsPath files due names xs (x ∷ later) held done log log_now
      path = subst (λ (left : List X). IsPath files due names xs left held done log log_now) at p

      read : List Read
      read = (turns files (names_held held) (names x)).reads

      -- one more is gained
      pub path_on : (y : Y) (now : List Y) → now ≡ done ++ y ∷ [] → IsStep files (due x) (names x) (Ok y) held held_now log_now log_then → IsPath files due names xs later held_now now log log_then
      unfolding read
      path_on y now more step =
          subst (λ (now : List Y). IsPath files due names xs later held_now now log log_then) (sym more)
          (record {
            true_now = step.true_now;
            rest = path.rest ∙ ap (λ (r : Result Y Refusal). (r >>= λ y. each_in_turn due later >>= λ ys. Ok (y ∷ ys)) >>= λ all. Ok (done ++ all)) step.answered
                ∙ moved (each_in_turn due later);
            made = path.made ++ read;
            reads = path.reads ∙ ap (λ (all : List (List ℕ)). path.made ++ (turns files (names_held held) all).reads) (looked_good x later y step.answered)
                ∙ ap (λ (reads : List Read). path.made ++ reads) (turns-append files (names_held held) (names x) (looked later))
                ∙ ap (λ (cache : Cache). path.made ++ (read ++ (turns files cache (looked later)).reads)) (sym step.held_names)
                ∙ sym (append_assoc path.made read (turns files (names_held held_now) (looked later)).reads);
            logged = told_with-more log log_now log_then path.made read path.logged step.logged;
          })
        where
          moved : (r : Result (List Y) Refusal) → ((r >>= λ ys. Ok (y ∷ ys)) >>= λ all. Ok (done ++ all)) ≡ (r >>= λ ys. Ok ((done ++ y ∷ []) ++ ys))
          moved (Ok ys) = ap Ok (sym (append_assoc done (y ∷ []) ys))
          moved (Err e) = refl

      module _ {V : Type 0} (view : V → List Y) where
        ended : (e : Refusal) → (e ≢ NoMemory → e ≢ StoreFailed → due x ≡ Err e) → LogsErr e read log_now log_then
            → Came view (Err e) (each_in_turn due xs) (turns files [] (looked xs)).reads log log_then
        unfolding read
        ended e answered logged =
            let first = looked_first x later in
            let others = (turns files (turns files (names_held held) (names x)).cache first.0).reads in
            let all : (turns files [] (looked xs)).reads ≡ path.made ++ (read ++ others) =
            path.reads ∙ ap (λ (all : List (List ℕ)). path.made ++ (turns files (names_held held) all).reads) first.1
            ∙ ap (λ (reads : List Read). path.made ++ reads) (turns-append files (names_held held) (names x) first.0) in
            record {
              answered = λ known_memory known_store. path.rest
                  ∙ ap (λ (r : Result Y Refusal). (r >>= λ y. each_in_turn due later >>= λ ys. Ok (y ∷ ys)) >>= λ all. Ok (done ++ all)) (answered known_memory known_store);
              logged = subst (λ (reads : List Read). LogsErr e reads log log_then) (sym all)
                  (logs_then {X = V} (Err e) path.made (read ++ others) log log_now log_then path.logged
                  (logs_ended e read others log_now log_then logged
                  (λ known_memory known_store. ap (λ (more : List (List ℕ)). (turns files (turns files (names_held held) (names x)).cache more).reads) (first.2 e (answered known_memory known_store))
                  ∙ turns-none files (turns files (names_held held) (names x)).cache)));
            }

        -- a step was refused, or cut short
        pub path_refused : (e : Refusal) → IsStep files (due x) (names x) (Err e) held held_now log_now log_then
            → Came view (Err e) (each_in_turn due xs) (turns files [] (looked xs)).reads log log_then
        unfolding read
        path_refused e step = ended e step.answered step.logged

        -- what it gained found no room
        pub path_stopped : (y : Y) (e : Refusal) → e ≡ NoMemory → IsStep files (due x) (names x) (Ok y) held held_now log_now log_then
            → Came view (Err e) (each_in_turn due xs) (turns files [] (looked xs)).reads log log_then
        unfolding read
        path_stopped y e is step = ended e (λ known_memory. absurd (known_memory is)) (GrewByPrefix-whole log_now log_then read step.logged, λ known_memory. absurd (known_memory is))

    -- none is left
    pub path_whole : {V : Type 0} (view : V → List Y) (v : V) (left : List X) → left ≡ [] → view v ≡ done → IsPath files due names xs left held done log log_now
        → Came view (Ok v) (each_in_turn due xs) (turns files [] (looked xs)).reads log log_now
    path_whole view v left none is p =
        let path = subst (λ (left : List X). IsPath files due names xs left held done log log_now) none p in
        record {
          answered = path.rest ∙ ap Ok (append-nil done ∙ sym is);
          logged = path.logged ∙ ap (told_with log) (sym (path.reads ∙ ap (λ (reads : List Read). path.made ++ reads) (turns-none files (names_held held)) ∙ append-nil path.made));
        }
