-- Calls that look at the files of several pieces, one after another.
use Rattle.std.proofs.Common.{◌≡◌, ◌≢◌, ℕ, suc, ◌+◌, Bool, true, false, List, [], ◌∷◌, ◌++◌, map, Option, Some, slice_get, Result, Ok, Err, refl, sym, ap, ap₂, ◌∙◌, subst, arith, take, append_assoc, append-nil}
use Rattle.std.specs.Prelude.{flat_map, is_err}
use Rattle.std.specs.List.{position_or_len}
use Rattle.std.proofs.lemmas.Option.{same_Some}
use Rattle.vod_types.specs.declared.refusal.Refusal.{Refusal}
use Rattle.vod_types.specs.declared.refusal.Refusal.TheVariants.{NoMemory}
use Rattle.vod_types.specs.Lists.{through_first}
use Rattle.vod_types.specs.Results.{◌>>=◌, each_in_turn}
use Rattle.mp4_model.specs.Movie.{Movie}
use Rattle.vod_source.specs.Stored.{Files, Read}
use Rattle.vod_source.specs.Told.{told_with}
use Rattle.vod_source.proofs.CallLemmas.{LogsErr, logs_all, logs_then, logs_ended}
use Rattle.std.proofs.lemmas.List.{map-append}
use Rattle.vod_source.proofs.ToldLemmas.{told_with-nil, told_with-more, GrewByPrefix-same}
use Rattle.origin_model.specs.Loaded.{loaded}
use Rattle.origin_model.specs.Reads.{Cache, turn, turns}
use Rattle.flat_samples.specs.Movies.{HeldMovie, AreTrue, IsTurn, names_held}
use Rattle.flat_samples.proofs.CheckLemmas.{not_loaded}
use Rattle.flat_lists.specs.Tours.{StandsFor, IsTour, IsWholeTour, IsOnTour, names_of_steps}

-- ---- lists through an element

pub through_stop : {X : Type 0} (test : X → Bool) (x : X) (xs : List X) → test x ≡ true → through_first test (x ∷ xs) ≡ x ∷ []
through_stop test x xs e = rw e refl

pub through_more : {X : Type 0} (test : X → Bool) (x : X) (xs : List X) → test x ≡ false → through_first test (x ∷ xs) ≡ x ∷ through_first test xs
through_more test x xs e =
    let n : 1 + position_or_len test xs + 1 ≡ suc (position_or_len test xs + 1) = omega arith in
    rw e (ap (λ (n : ℕ). take n (x ∷ xs)) n)

-- ---- turns on some names and then on others

module _ (files : Files) where
  turns_first : (cache : Cache) (name : List ℕ) (names : List (List ℕ)) → (turns files cache (name ∷ names)).reads ≡ (turn files cache name).reads ++ (turns files (turn files cache name).cache names).reads
  unfolding turns
  turns_first cache name names = refl

  turns_cache : (cache : Cache) (name : List ℕ) (names : List (List ℕ)) → (turns files cache (name ∷ names)).cache ≡ (turns files (turn files cache name).cache names).cache
  unfolding turns
  turns_cache cache name names = refl

  turns_none : (cache : Cache) → (turns files cache []).reads ≡ []
  unfolding turns
  turns_none cache = refl

  kept_none : (cache : Cache) → (turns files cache []).cache ≡ cache
  unfolding turns
  kept_none cache = refl

  pub turns-reads : (cache : Cache) (xs ys : List (List ℕ)) → (turns files cache (xs ++ ys)).reads ≡ (turns files cache xs).reads ++ (turns files (turns files cache xs).cache ys).reads
  turns-reads cache [] ys = ap (λ (c : Cache). (turns files c ys).reads) (sym (kept_none cache)) ∙ ap (λ (reads : List Read). reads ++ (turns files (turns files cache []).cache ys).reads) (sym (turns_none cache))
  turns-reads cache (x ∷ xs) ys =
      let now = (turn files cache x).cache in
      let first = (turn files cache x).reads in
      turns_first cache x (xs ++ ys) ∙ ap (λ (reads : List Read). first ++ reads) (turns-reads now xs ys)
      ∙ sym (append_assoc first (turns files now xs).reads (turns files (turns files now xs).cache ys).reads)
      ∙ ap₂ (λ (reads : List Read) (c : Cache). reads ++ (turns files c ys).reads) (sym (turns_first cache x xs)) (sym (turns_cache cache x xs))

  pub turns-kept : (cache : Cache) (xs ys : List (List ℕ)) → (turns files cache (xs ++ ys)).cache ≡ (turns files (turns files cache xs).cache ys).cache
  turns-kept cache [] ys = ap (λ (c : Cache). (turns files c ys).cache) (sym (kept_none cache))
  turns-kept cache (x ∷ xs) ys = turns_cache cache x (xs ++ ys) ∙ turns-kept (turn files cache x).cache xs ys ∙ ap (λ (c : Cache). (turns files c ys).cache) (sym (turns_cache cache x xs))

  one_read : (cache : Cache) (name : List ℕ) → (turns files cache (name ∷ [])).reads ≡ (turn files cache name).reads
  one_read cache name = turns_first cache name [] ∙ ap (λ (reads : List Read). (turn files cache name).reads ++ reads) (turns_none (turn files cache name).cache) ∙ append-nil (turn files cache name).reads

  one_kept : (cache : Cache) (name : List ℕ) → (turns files cache (name ∷ [])).cache ≡ (turn files cache name).cache
  one_kept cache name = turns_cache cache name [] ∙ kept_none (turn files cache name).cache

  -- ---- a call with one turn

  module _ {R Y : Type 0} (Is : Y → R → Type 0) (due : Result Y Refusal) (name : List ℕ) (held held_now : List HeldMovie) (log log_now : Option (List Read)) where
    -- the turn was refused
    pub toured_unloaded : (e : Refusal) (f : Movie → Result Y Refusal) → due ≡ (loaded files name >>= f) → IsTurn files name (Err e) held held_now log log_now
        → IsTour files Is due (name ∷ []) (Err e) held held_now log log_now
    toured_unloaded e f is t = record {
      true_now = t.true_now;
      answered = λ known_memory known_store. is ∙ not_loaded (loaded files name) f e (t.answered known_memory known_store);
      names_now = tt;
      logged = subst (λ (reads : List Read). LogsErr e reads log log_now) (sym (one_read (names_held held) name)) t.logged;
    }

    -- it wasn't
    pub toured_loaded : (x : Unit {0}) (result : Result R Refusal) → IsTurn files name (Ok x) held held_now log log_now → StandsFor Is result due
        → IsTour files Is due (name ∷ []) result held held_now log log_now
    toured_loaded x (Ok r) t answered = record {
      true_now = t.true_now;
      answered = answered;
      names_now = t.names ∙ sym (one_kept (names_held held) name);
      logged = t.logged ∙ ap (told_with log) (sym (one_read (names_held held) name));
    }
    toured_loaded x (Err e) t answered =
        let all = t.logged ∙ ap (told_with log) (sym (one_read (names_held held) name)) in
        record {
          true_now = t.true_now;
          answered = answered;
          names_now = tt;
          logged = whole_err e (turns files (names_held held) (name ∷ [])).reads all;
        }
      where
        whole_err : (e : Refusal) (reads : List Read) → log_now ≡ told_with log reads → LogsErr e reads log log_now
        whole_err e reads is = logs_all {X = R} (Err e) reads log log_now is

  -- ---- steps

  module _ {X Y : Type 0} (f : X → Result Y Refusal) (looks : X → List (List ℕ)) where
    abbrev names : List X → List (List ℕ)
    names xs = names_of_steps f looks xs

    pub names_good : (x : X) (xs : List X) (y : Y) → f x ≡ Ok y → names (x ∷ xs) ≡ looks x ++ names xs
    names_good x xs y e = ap (flat_map looks) (through_more (λ x. is_err (f x)) x xs (ap (λ (r : Result Y Refusal). is_err r) e))

    names_bad : (x : X) (xs : List X) (e : Refusal) → f x ≡ Err e → names (x ∷ xs) ≡ looks x
    names_bad x xs e is = ap (flat_map looks) (through_stop (λ x. is_err (f x)) x xs (ap (λ (r : Result Y Refusal). is_err r) is)) ∙ append-nil (looks x)

    pub names_first : (x : X) (xs : List X) → (rest : List (List ℕ)) × (names (x ∷ xs) ≡ looks x ++ rest) × ((e : Refusal) → f x ≡ Err e → rest ≡ [])
    names_first x xs = by (f x) refl
      where
        by : (r : Result Y Refusal) → f x ≡ r → (rest : List (List ℕ)) × (names (x ∷ xs) ≡ looks x ++ rest) × ((e : Refusal) → f x ≡ Err e → rest ≡ [])
        by (Ok y) is = (names xs, names_good x xs y is, λ e refused. absurd (let both : ◌≡◌ {A = Result Y Refusal} (Ok y) (Err e) = sym is ∙ refused in cc))
        by (Err d) is = ([], names_bad x xs d is ∙ sym (append-nil (looks x)), λ e refused. refl)

    rest_first : (all left : List X) (done : List Y) (x : X) (e : Refusal) → each_in_turn f all ≡ (each_in_turn f (x ∷ left) >>= λ later. Ok (done ++ later)) → f x ≡ Err e → each_in_turn f all ≡ Err e
    rest_first all left done x e is refused = is ∙ ap (λ (r : Result Y Refusal). (r >>= λ y. each_in_turn f left >>= λ ys. Ok (y ∷ ys)) >>= λ later. Ok (done ++ later)) refused

    pub tour_begins : (all : List X) (held : List HeldMovie) (log : Option (List Read)) → AreTrue files held → IsOnTour files f looks all all [] held held log log
    tour_begins all held log h = record { true_now = h; rest = rest (each_in_turn f all); made = []; reads = refl; names_now = refl; logged = sym (told_with-nil log) }
      where
        rest : (r : Result (List Y) Refusal) → r ≡ (r >>= λ later. Ok ([] ++ later))
        rest (Ok xs) = refl
        rest (Err e) = refl

    module _ (all : List X) (done : List Y) (begun held : List HeldMovie) (log log_now : Option (List Read)) where
      module _ {R : Type 0} (Is : Y → R → Type 0) (x : X) (left : List X) (t : IsOnTour files f looks all (x ∷ left) done begun held log log_now) (held_now : List HeldMovie) (log_then : Option (List Read)) where
        -- a step was taken
        pub tour_on : (r : R) (step : IsTour files Is (f x) (looks x) (Ok r) held held_now log_now log_then) → IsOnTour files f looks all left (done ++ step.answered.0 ∷ []) begun held_now log log_then
        tour_on r step =
            let y = step.answered.0 in
            let read = (turns files (names_held held) (looks x)).reads in
            let named = names_good x left y step.answered.1 in
            record {
              true_now = step.true_now;
              rest = t.rest ∙ ap (λ (r : Result Y Refusal). (r >>= λ y. each_in_turn f left >>= λ ys. Ok (y ∷ ys)) >>= λ later. Ok (done ++ later)) step.answered.1 ∙ moved y (each_in_turn f left);
              made = t.made ++ read;
              reads = t.reads ∙ ap (λ (ns : List (List ℕ)). t.made ++ (turns files (names_held held) ns).reads) named
                  ∙ ap (λ (reads : List Read). t.made ++ reads) (turns-reads (names_held held) (looks x) (names left))
                  ∙ ap (λ (c : Cache). t.made ++ (read ++ (turns files c (names left)).reads)) (sym step.names_now)
                  ∙ sym (append_assoc t.made read (turns files (names_held held_now) (names left)).reads);
              names_now = t.names_now ∙ ap (λ (ns : List (List ℕ)). (turns files (names_held held) ns).cache) named ∙ turns-kept (names_held held) (looks x) (names left)
                  ∙ ap (λ (c : Cache). (turns files c (names left)).cache) (sym step.names_now);
              logged = told_with-more log log_now log_then t.made read t.logged step.logged;
            }
          where
            moved : (y : Y) (r : Result (List Y) Refusal) → ((r >>= λ ys. Ok (y ∷ ys)) >>= λ later. Ok (done ++ later)) ≡ (r >>= λ ys. Ok ((done ++ y ∷ []) ++ ys))
            moved y (Ok ys) = ap Ok (sym (append_assoc done (y ∷ []) ys))
            moved y (Err e) = refl

        -- a step was refused, or cut short
        pub tour_refused : {S Z : Type 0} (Are : Z → S → Type 0) (due : Result Z Refusal) (e : Refusal) → (each_in_turn f all ≡ Err e → due ≡ Err e) → IsTour files Is (f x) (looks x) (Err e) held held_now log_now log_then
            → IsTour files Are due (names all) (Err e) begun held_now log log_then
        tour_refused {S = S} Are due e whole step =
            let first = names_first x left in
            let read = (turns files (names_held held) (looks x)).reads in
            let others = (turns files (turns files (names_held held) (looks x)).cache first.0).reads in
            let every : (turns files (names_held begun) (names all)).reads ≡ t.made ++ (read ++ others) =
            t.reads ∙ ap (λ (ns : List (List ℕ)). t.made ++ (turns files (names_held held) ns).reads) first.1 ∙ ap (λ (reads : List Read). t.made ++ reads) (turns-reads (names_held held) (looks x) first.0) in
            record {
              true_now = step.true_now;
              answered = λ known_memory known_store. whole (rest_first all left done x e t.rest (step.answered known_memory known_store));
              names_now = tt;
              logged = subst (λ (reads : List Read). LogsErr e reads log log_then) (sym every)
                  (logs_then {X = S} (Err e) t.made (read ++ others) log log_now log_then t.logged
                  (logs_ended e read others log_now log_then step.logged
                  (λ known_memory known_store. ap (λ (ns : List (List ℕ)). (turns files (turns files (names_held held) (looks x)).cache ns).reads) (first.2 e (step.answered known_memory known_store))
                  ∙ turns_none (turns files (names_held held) (looks x)).cache)));
            }

      -- none is left
      pub tour_ended : {S Z : Type 0} (Are : Z → S → Type 0) (due : Result Z Refusal) (s : S) (z : Z) → (each_in_turn f all ≡ Ok done → due ≡ Ok z) → Are z s → IsOnTour files f looks all [] done begun held log log_now
          → IsTour files Are due (names all) (Ok s) begun held log log_now
      tour_ended Are due s z whole are t = record {
        true_now = t.true_now;
        answered = (z, whole (t.rest ∙ ap Ok (append-nil done)), are);
        names_now = sym (t.names_now ∙ kept_none (names_held held));
        logged = t.logged ∙ ap (told_with log) (sym (t.reads ∙ ap (λ (reads : List Read). t.made ++ reads) (turns_none (names_held held)) ∙ append-nil t.made));
      }

      -- a call was cut short between steps, for want of memory
      pub tour_cut : {S Z : Type 0} (Are : Z → S → Type 0) (due : Result Z Refusal) (left : List X) (e : Refusal) → e ≡ NoMemory → IsOnTour files f looks all left done begun held log log_now
          → IsTour files Are due (names all) (Err e) begun held log log_now
      tour_cut Are due left e is t = record {
        true_now = t.true_now;
        answered = λ known_memory known_store. absurd (known_memory is);
        names_now = tt;
        logged = (
          record { front = t.made; back = (turns files (names_held held) (names left)).reads; split = t.reads; grew = t.logged },
          λ known_memory known_store. absurd (known_memory is),
        );
      }

-- ---- one call after another

-- a turn on a name is one on the same name
pub renamed : (files : Files) (name other : List ℕ) (r : Result (Unit {0}) Refusal) (held held_now : List HeldMovie) (log log_now : Option (List Read))
    → name ≡ other → IsTurn files name r held held_now log log_now → IsTurn files other r held held_now log log_now
renamed files name other r held held_now log log_now e t = subst (λ (name : List ℕ). IsTurn files name r held held_now log log_now) e t

-- what is in front after a turn is the movie of the file
pub in_front : (files : Files) (name : List ℕ) (x : Unit {0}) (held held_now : List HeldMovie) (log log_now : Option (List Read)) (h : HeldMovie)
    → slice_get held_now 0 ≡ Some h → IsTurn files name (Ok x) held held_now log log_now → loaded files name ≡ Ok h.movie
in_front files name x held held_now log log_now h e t = t.front.3 ∙ ap (λ (h : HeldMovie). Ok h.movie) (same_Some t.front.0 h (sym t.front.1 ∙ e))

module _ (files : Files) {R Y S Z : Type 0} (Is : Y → R → Type 0) (Are : Z → S → Type 0) (first : Result Y Refusal) (due : Result Z Refusal) (front back all : List (List ℕ)) (held middle held_now : List HeldMovie)
    (log log_then log_now : Option (List Read)) where
  -- the first call was refused, or cut short
  pub tour_failed : (e : Refusal) → all ≡ front ++ back → (first ≡ Err e → back ≡ []) → (first ≡ Err e → due ≡ Err e) → IsTour files Is first front (Err e) held middle log log_then
      → IsTour files Are due all (Err e) held middle log log_then
  tour_failed e named none whole t =
      let read = (turns files (names_held held) front).reads in
      let others = (turns files (turns files (names_held held) front).cache back).reads in
      let every : (turns files (names_held held) all).reads ≡ read ++ others = ap (λ (ns : List (List ℕ)). (turns files (names_held held) ns).reads) named ∙ turns-reads files (names_held held) front back in
      record {
        true_now = t.true_now;
        answered = λ known_memory known_store. whole (t.answered known_memory known_store);
        names_now = tt;
        logged = subst (λ (reads : List Read). LogsErr e reads log log_then) (sym every)
            (logs_ended e read others log log_then t.logged
            (λ known_memory known_store. ap (λ (ns : List (List ℕ)). (turns files (turns files (names_held held) front).cache ns).reads) (none (t.answered known_memory known_store))
            ∙ turns_none files (turns files (names_held held) front).cache));
      }

  -- it wasn't
  pub tour_then : {W : Type 0} (Then : W → S → Type 0) (second : Result W Refusal) (r : R) (result : Result S Refusal) → all ≡ front ++ back → IsTour files Is first front (Ok r) held middle log log_then
      → IsTour files Then second back result middle held_now log_then log_now → (StandsFor Then result second → StandsFor Are result due)
      → IsTour files Are due all result held held_now log log_now
  tour_then Then second r (Ok s) named t u whole =
      let read = (turns files (names_held held) front).reads in
      let later : (turns files (names_held held) all).reads ≡ read ++ (turns files (names_held middle) back).reads =
      ap (λ (ns : List (List ℕ)). (turns files (names_held held) ns).reads) named ∙ turns-reads files (names_held held) front back ∙ ap (λ (c : Cache). read ++ (turns files c back).reads) (sym t.names_now) in
      record {
        true_now = u.true_now;
        answered = whole u.answered;
        names_now = u.names_now ∙ ap (λ (c : Cache). (turns files c back).cache) t.names_now ∙ sym (ap (λ (ns : List (List ℕ)). (turns files (names_held held) ns).cache) named ∙ turns-kept files (names_held held) front back);
        logged = told_with-more log log_then log_now read (turns files (names_held middle) back).reads t.logged u.logged ∙ ap (told_with log) (sym later);
      }
  tour_then Then second r (Err e) named t u whole =
      let read = (turns files (names_held held) front).reads in
      let later : (turns files (names_held held) all).reads ≡ read ++ (turns files (names_held middle) back).reads =
      ap (λ (ns : List (List ℕ)). (turns files (names_held held) ns).reads) named ∙ turns-reads files (names_held held) front back ∙ ap (λ (c : Cache). read ++ (turns files c back).reads) (sym t.names_now) in
      record {
        true_now = u.true_now;
        answered = whole u.answered;
        names_now = tt;
        logged = subst (λ (reads : List Read). LogsErr e reads log log_now) (sym later) (logs_then {X = S} (Err e) read (turns files (names_held middle) back).reads log log_then log_now t.logged u.logged);
      }

-- a call without a turn
pub toured_none : (files : Files) {R Y : Type 0} (Is : Y → R → Type 0) (due : Result Y Refusal) (r : R) (held : List HeldMovie) (log : Option (List Read)) → AreTrue files held → StandsFor Is (Ok r) due
    → IsTour files Is due [] (Ok r) held held log log
toured_none files Is due r held log known stands = record {
  true_now = known;
  answered = stands;
  names_now = sym (kept_none files (names_held held));
  logged = sym (told_with-nil log) ∙ ap (told_with log) (sym (turns_none files (names_held held)));
}

-- ---- a call that hands on what another one found

module _ (files : Files) {R Y S Z : Type 0} (Is : Y → R → Type 0) (Are : Z → S → Type 0) (due : Result Y Refusal) (g : Y → Z) (names : List (List ℕ)) (held held_now : List HeldMovie) (log log_now : Option (List Read)) where
  pub tour_ok : (r : R) (s : S) → ((y : Y) → Is y r → Are (g y) s) → IsTour files Is due names (Ok r) held held_now log log_now → IsTour files Are (due >>= λ y. Ok (g y)) names (Ok s) held held_now log log_now
  tour_ok r s are t = record {
    true_now = t.true_now;
    answered = (g t.answered.0, ap (λ (d : Result Y Refusal). d >>= λ y. Ok (g y)) t.answered.1, are t.answered.0 t.answered.2);
    names_now = t.names_now;
    logged = t.logged;
  }

  pub tour_err : (e : Refusal) → IsTour files Is due names (Err e) held held_now log log_now → IsTour files Are (due >>= λ y. Ok (g y)) names (Err e) held held_now log log_now
  tour_err e t = record {
    true_now = t.true_now;
    answered = λ known_memory known_store. ap (λ (d : Result Y Refusal). d >>= λ y. Ok (g y)) (t.answered known_memory known_store);
    names_now = tt;
    logged = t.logged;
  }

-- a call that is refused before it reads
pub tour_unread : (files : Files) {R Y : Type 0} (Is : Y → R → Type 0) (due : Result Y Refusal) (names : List (List ℕ)) (e : Refusal) (held : List HeldMovie) (log : Option (List Read)) → AreTrue files held
    → (e ≢ NoMemory → (due ≡ Err e) × (names ≡ [])) → IsTour files Is due names (Err e) held held log log
tour_unread files Is due names e held log known refused = record {
  true_now = known;
  answered = λ known_memory known_store. (refused known_memory).0;
  names_now = tt;
  logged = (
    GrewByPrefix-same log log (turns files (names_held held) names).reads refl,
    λ known_memory known_store. sym (told_with-nil log) ∙ ap (told_with log) (sym (ap (λ (ns : List (List ℕ)). (turns files (names_held held) ns).reads) (refused known_memory).1 ∙ turns_none files (names_held held))),
  );
}

-- ---- steps whose values are kept in a list

pub record IsListWalk {X Y V : Type 0} (files : Files) (f : X → Result Y Refusal) (looks : X → List (List ℕ)) (kept : Y → V) (all left : List X) (seen : List V) (begun held : List HeldMovie) (log log_now : Option (List Read)) : Type 0 where
  pub done : List Y
  pub on : IsOnTour files f looks all left done begun held log log_now
  pub seen_is : seen ≡ map kept done

module _ {X Y V : Type 0} (files : Files) (f : X → Result Y Refusal) (looks : X → List (List ℕ)) (kept : Y → V) (all : List X) (begun : List HeldMovie) (log : Option (List Read)) where
  pub list_begins : (seen : List V) → seen ≡ [] → AreTrue files begun → IsListWalk files f looks kept all all seen begun begun log log
  list_begins seen none known = record { done = []; on = tour_begins files f looks all begun log known; seen_is = none }

  module _ (left : List X) (seen : List V) (held : List HeldMovie) (log_now : Option (List Read)) (w : IsListWalk files f looks kept all left seen begun held log log_now) where
    pub list_cut : {R : Type 0} (items : R → List V) (e : Refusal) → e ≡ NoMemory → IsTour files (λ ys r. items r ≡ map kept ys) (each_in_turn f all) (names_of_steps f looks all) (Err e) begun held log log_now
    list_cut items e none = tour_cut files f looks all w.done begun held log log_now (λ ys r. items r ≡ map kept ys) (each_in_turn f all) left e none w.on

    pub list_ended : {R : Type 0} (items : R → List V) (r : R) → left ≡ [] → items r ≡ seen → IsTour files (λ ys r. items r ≡ map kept ys) (each_in_turn f all) (names_of_steps f looks all) (Ok r) begun held log log_now
    list_ended items r none are =
        tour_ended files f looks all w.done begun held log log_now (λ ys r. items r ≡ map kept ys) (each_in_turn f all) r w.done (λ whole. whole) (are ∙ w.seen_is)
        (subst (λ (xs : List X). IsOnTour files f looks all xs w.done begun held log log_now) none w.on)

    module _ {R : Type 0} (Is : Y → R → Type 0) (x : X) (rest : List X) (at : left ≡ x ∷ rest) (held_now : List HeldMovie) (log_then : Option (List Read)) where
      on_step : IsOnTour files f looks all (x ∷ rest) w.done begun held log log_now
      on_step = subst (λ (xs : List X). IsOnTour files f looks all xs w.done begun held log log_now) at w.on

      pub list_on : (r : R) (v : V) (then : List V) → ((y : Y) → Is y r → v ≡ kept y) → then ≡ seen ++ v ∷ [] → IsTour files Is (f x) (looks x) (Ok r) held held_now log_now log_then
          → IsListWalk files f looks kept all rest then begun held_now log log_then
      list_on r v then is more t = record {
        done = w.done ++ t.answered.0 ∷ [];
        on = tour_on files f looks all w.done begun held log log_now Is x rest on_step held_now log_then r t;
        seen_is = more ∙ ap₂ (λ (vs : List V) (v : V). vs ++ v ∷ []) w.seen_is (is t.answered.0 t.answered.2) ∙ sym (map-append kept w.done (t.answered.0 ∷ []));
      }

      pub list_refused : {S : Type 0} (items : S → List V) (e : Refusal) → IsTour files Is (f x) (looks x) (Err e) held held_now log_now log_then
          → IsTour files (λ ys r. items r ≡ map kept ys) (each_in_turn f all) (names_of_steps f looks all) (Err e) begun held_now log log_then
      list_refused items e t = tour_refused files f looks all w.done begun held log log_now Is x rest on_step held_now log_then (λ ys r. items r ≡ map kept ys) (each_in_turn f all) e (λ e. e) t

pub whole_tour : (files : Files) {R Y : Type 0} (Is : Y → R → Type 0) (due : Result Y Refusal) (names : List (List ℕ)) (result : Result R Refusal) (held_now : List HeldMovie) (log log_now : Option (List Read))
    → IsTour files Is due names result [] held_now log log_now → IsWholeTour files Is due names result log log_now
whole_tour files Is due names result held_now log log_now t = record { answered = t.answered; logged = t.logged }
