-- What a request and a path are answered with, and their reads.
use Rattle.std.proofs.Common.{◌≡◌, ◌≢◌, ℕ, true, List, [], ◌++◌, Option, Some, None, Result, Ok, Err, refl, sym, ap, ◌∙◌, subst, append-nil, append_assoc}
use Rattle.std.specs.Prelude.{ok_or, option_and_then, length, IfErr, IfOk, IsErr}
use Rattle.std.specs.Int.{IsInRange}
use Rattle.std.specs.Result.{result_map_both, result_unwrap_or}
use Rattle.vod_types.specs.declared.paths.Ask.{Ask}
use Rattle.vod_types.specs.declared.paths.Leaf.{Leaf}
use Rattle.vod_types.specs.declared.paths.Leaf.TheVariants.{Master, Mpd, Index, Init, Segment, Iframes, Iframe, Clip}
use Rattle.vod_types.specs.declared.refusal.Refusal.{Refusal}
use Rattle.vod_types.specs.declared.refusal.Refusal.TheVariants as refusals
use Rattle.vod_types.specs.declared.refusal.Refusal.TheVariants.{NoMemory, StoreFailed}
use Rattle.vod_types.specs.Options.{passing}
use Rattle.vod_types.specs.Results.{◌>>=◌, Answers}
use Rattle.vod_types.specs.declared.paths.ByteRange.{ByteRange}
use Rattle.vod_types.proofs.StepLemmas.{ok_or_ok}
use Rattle.mp4_flat.proofs.Leaves.{ended, no_turns}
use Rattle.list_model.specs.Names.{IsLeafOf}
use Rattle.list_model.specs.Path.{ask_of, is_dash, is_local}
use Rattle.list_model.proofs.PathLemmas.{ask_of_leaf}
use Rattle.list_model.specs.Reply.{Answer, Body}
use Rattle.vod_source.specs.Stored.{Read}
use Rattle.vod_source.specs.Told.{told_with}
use Rattle.origin_model.specs.Answers.{answer, ask_answer, every_leaf, leaf_answer, ranged_answer, readable, readable_as}
use Rattle.origin_model.specs.Reads as reads
use Rattle.origin_model.specs.Reads.{ask_reads, further_names, looks_of, mapping_reads_by, path_reads, ranged_reads, turn_names, turns}
use Rattle.origin_model.specs.Requests.{Setup, Asking, asking_of, target_names}
use Rattle.origin_model.proofs.Askings.{ask_in-range}
use Rattle.answer_laws.specs.Refusals.{IsPathRefusal}
use Rattle.answer_laws.proofs.Due.{due_may}
use Rattle.answer_laws.proofs.Steps.{ok_or_may}
use Rattle.mp4_flat.specs.Asks.{IsPathAsk}
use Rattle.vod_source.specs.Calls.{AnswersUnlessFailed, LogsReads, Came}
use Rattle.mp4_flat.specs.Flat.{IsAskAnswer, IsFlatAnswer, flat_seen}
use Rattle.flat_segments.specs.Bodies.{flat_shown}
use Rattle.flat_segments.specs.declared.body.FlatBody.{FlatBody}
use Rattle.vod_source.proofs.CallLemmas.{logs_then, logs_unmade}

-- ---- a request

-- where no range is asked for
pub whole_answer : (o : Setup) (a : Asking) (leaf : Leaf) → ranged_answer o a None leaf ≡ leaf_answer o a leaf
unfolding leaf_answer
whole_answer o a Master = refl
whole_answer o a Mpd = refl
whole_answer o a (Index sequence asked) = refl
whole_answer o a (Init part sequence asked) = refl
whole_answer o a (Segment number sequence asked form) = refl
whole_answer o a (Iframes sequence video) = refl
whole_answer o a (Iframe number index sequence video) = refl
whole_answer o a (Clip sequence asked) = refl

module _ (o : Setup) (range : Option ByteRange) (ask : Ask) where
  abbrev mapped : List Read
  mapped = mapping_reads_by o (is_local ask.place) ask.target

  abbrev looks_by : Result Asking Refusal → reads.Looks
  looks_by r = result_unwrap_or (r >>= λ a. Ok (record { turns = turn_names o a ask.leaf; further = further_names o a ask.leaf; samples = ranged_reads o a range ask.leaf })) reads.no_looks

  abbrev later_reads : Result Asking Refusal → List Read
  later_reads r = (turns o.files [] (reads.names_taken (looks_by r) [])).reads ++ (looks_by r).samples

  all_reads : ask_reads o [] true [] range ask ≡ mapped ++ later_reads (asking_of o ask)
  unfolding ask_reads looks_of
  all_reads = append_assoc mapped (turns o.files [] (reads.names_taken (looks_by (asking_of o ask)) [])).reads (looks_by (asking_of o ask)).samples

  answer_due : ask_answer o range ask ≡ (asking_of o ask >>= λ a. ranged_answer o a range ask.leaf)
  unfolding ask_answer
  answer_due = refl

  none_later : (e : Refusal) → later_reads (Err e) ≡ []
  none_later e = ap (λ (xs : List Read). xs ++ []) (no_turns o.files)

  -- of what is shown of an answer
  module _ {X Y : Type 0} (shown : X → Y) (seen : Body → Y) where
    abbrev seen_of : Answer → Result Y Refusal
    seen_of due = result_map_both seen (λ r. r) due

    -- what is asked was refused
    pub ask_refused : {A : Type 0} (view : A → Asking) (e : Refusal) (log log_now : Option (List Read)) → Came {X = A} view (Err e) (asking_of o ask) mapped log log_now
        → Came {X = X} shown (Err e) (seen_of (ask_answer o range ask)) (ask_reads o [] true [] range ask) log log_now
    ask_refused view e log log_now came =
        ended shown e (seen_of (ask_answer o range ask)) mapped (later_reads (asking_of o ask)) (ask_reads o [] true [] range ask) log log_now
        (λ known_memory known_store. ap seen_of (answer_due ∙ ap (λ (r : Result Asking Refusal). r >>= λ a. ranged_answer o a range ask.leaf) (came.answered known_memory known_store)))
        came.logged all_reads (λ known_memory known_store. ap later_reads (came.answered known_memory known_store) ∙ none_later e)

    pub ask_answered : (a : Asking) (r : Result X Refusal) (due : Answer) (log log_asked log_now : Option (List Read)) → ranged_answer o a range ask.leaf ≡ due → asking_of o ask ≡ Ok a → log_asked ≡ told_with log mapped
        → Came shown r (seen_of due) ((turns o.files [] (turn_names o a ask.leaf)).reads ++ ranged_reads o a range ask.leaf) log_asked log_now
        → Came shown r (seen_of (ask_answer o range ask)) (ask_reads o [] true [] range ask) log log_now
    ask_answered a r due log log_asked log_now answered asked made came =
        let due_is : seen_of (ask_answer o range ask) ≡ seen_of due = ap seen_of (answer_due ∙ ap (λ (r : Result Asking Refusal). r >>= λ a. ranged_answer o a range ask.leaf) asked ∙ answered) in
        let after : List Read = (turns o.files [] (turn_names o a ask.leaf)).reads ++ ranged_reads o a range ask.leaf in
        let reads : ask_reads o [] true [] range ask ≡ mapped ++ after =
        all_reads ∙ ap (λ (r : Result Asking Refusal). mapped ++ later_reads r) asked
        ∙ ap (λ (names : List (List ℕ)). mapped ++ ((turns o.files [] names).reads ++ ranged_reads o a range ask.leaf)) (append-nil (turn_names o a ask.leaf)) in
        record {
          answered = subst (AnswersUnlessFailed shown r) (sym due_is) came.answered;
          logged = subst (λ (all : List Read). LogsReads r all log log_now) (sym reads) (logs_then r mapped after log log_asked log_now made came.logged);
        }

-- ---- what a path asks for

module _ (path : List ℕ) where
  readable_is : readable path ≡ ok_or (ask_of path) refusals.BadPath
  unfolding readable_as
  readable_is = by_ask (ask_of path)
    where
      by_ask : (found : Option Ask) → ok_or (option_and_then (passing (λ (ask : Ask). every_leaf ask.leaf)) found) refusals.BadPath ≡ ok_or found refusals.BadPath
      by_ask None = refl
      by_ask (Some ask) = refl

  -- as it is read
  pub read_as : (r : Result Ask Refusal) → Answers (λ ask. ask) r (ok_or (ask_of path) refusals.BadPath) → Answers (λ ask. ask) r (readable path)
  read_as r = subst (Answers (λ ask. ask) r) (sym readable_is)

  pub path_asked : (ask : Ask) → ok_or (ask_of path) refusals.BadPath ≡ Ok ask → IsPathAsk ask
  path_asked ask read =
      let is : ask_of path ≡ Some ask = ok_or_ok (ask_of path) refusals.BadPath ask read in
      record { leaf = ask_of_leaf path ask is; names = (ask_in-range path ask is).names }

  pub asked_of : (r : Result Ask Refusal) → Answers (λ ask. ask) r (ok_or (ask_of path) refusals.BadPath) → IfOk r IsPathAsk
  asked_of (Ok ask) is = path_asked ask is
  asked_of (Err e) is = tt

  -- its refusals
  pub refused_of : (r : Result Ask Refusal) → Answers (λ ask. ask) r (ok_or (ask_of path) refusals.BadPath) → IfErr r IsPathRefusal
  refused_of (Ok ask) is = tt
  refused_of (Err e) is = due_may (ok_or (ask_of path) refusals.BadPath) (ok_or_may _ _ tt) e is

  pub none_failed : (r : Result Ask Refusal) → Answers (λ ask. ask) r (ok_or (ask_of path) refusals.BadPath) → IfErr r (λ e. e ≢ StoreFailed)
  none_failed (Ok ask) is = tt
  none_failed (Err e) is = λ failed. by_ask (ask_of path) (subst (λ (e : Refusal). e ≢ NoMemory → ok_or (ask_of path) refusals.BadPath ≡ Err e) failed is (λ none. absurd cc))
    where
      by_ask : (found : Option Ask) → ok_or found refusals.BadPath ≡ Err StoreFailed → ⊥
      by_ask (Some ask) e = absurd cc
      by_ask None e = absurd cc

-- ---- a path

module _ (o : Setup) (path : List ℕ) where
  -- what is asked for isn't read, and nothing was read for it
  pub path_refused : (r : Refusal) (log : Option (List Read)) → (r ≢ NoMemory → readable path ≡ Err r) → IsFlatAnswer o path (Err r) log log
  unfolding answer path_reads
  path_refused r log h = record {
    answered = λ known_memory known_store. ap (λ (x : Result Ask Refusal). flat_seen (x >>= ask_answer o None)) (h known_memory);
    reads = path_reads every_leaf o [] true [] path None;
    reads_are = record { taken = []; are = refl };
    logged = logs_unmade r (path_reads every_leaf o [] true [] path None) log log refl (λ known_memory known_store. ap (λ (x : Result Ask Refusal). reads.if_readable x [] (ask_reads o [] true [] None)) (h known_memory));
  }

  -- it is read
  pub path_answered : (ask : Ask) (r : Result FlatBody Refusal) (log log_now : Option (List Read)) → readable path ≡ Ok ask → IsAskAnswer o ask r log log_now → IsFlatAnswer o path r log log_now
  unfolding answer path_reads
  path_answered ask r log log_now is came = record {
    answered = subst (AnswersUnlessFailed flat_shown r) (sym (ap (λ (x : Result Ask Refusal). flat_seen (x >>= ask_answer o None)) is)) came.answered;
    reads = ask_reads o [] true [] None ask;
    reads_are = record { taken = []; are = sym (ap (λ (x : Result Ask Refusal). reads.if_readable x [] (ask_reads o [] true [] None)) is) };
    logged = came.logged;
  }

-- a path that is read isn't refused
pub read_is_ok : (path : List ℕ) (ask : Ask) → readable path ≡ Ok ask → IsErr (readable path) → ⊥
read_is_ok path ask is err = by_readable (readable path) is err
  where
    by_readable : (r : Result Ask Refusal) → r ≡ Ok ask → IsErr r → ⊥
    by_readable (Ok found) e err = absurd cc
    by_readable (Err d) e err = absurd cc

-- the names of a path are few
pub few_names : (o : Setup) (path : List ℕ) (ask : Ask) → ok_or (ask_of path) refusals.BadPath ≡ Ok ask → IsInRange 1 32 (length (target_names ask.target))
few_names o path ask read = (ask_in-range path ask (ok_or_ok (ask_of path) refusals.BadPath ask read)).names

-- the leaf of a path is one of its protocol
pub leaf_in-range : (path : List ℕ) (ask : Ask) → ok_or (ask_of path) refusals.BadPath ≡ Ok ask → IsLeafOf (is_dash ask.place) ask.leaf
leaf_in-range path ask read = ask_of_leaf path ask (ok_or_ok (ask_of path) refusals.BadPath ask read)
