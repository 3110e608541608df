-- The listed rows of a path, and what is read for them.
use Rattle.std.proofs.Common.{◌≡◌, ◌≢◌, ℕ, true, false, List, [], Option, None, Some, Result, Ok, Err, refl, sym, ap, ◌∙◌, subst}
use Rattle.std.specs.Prelude.{ok_or, option_and_then}
use Rattle.vod_types.specs.declared.paths.Ask.{Ask}
use Rattle.vod_types.specs.declared.paths.Leaf.TheVariants.{Index}
use Rattle.vod_types.specs.declared.refusal.Refusal.{Refusal}
use Rattle.vod_types.specs.declared.refusal.Refusal.TheVariants.{BadPath, NoMemory, StoreFailed}
use Rattle.vod_types.specs.declared.tracks.Asked.{Asked}
use Rattle.vod_types.specs.Options.{passing}
use Rattle.vod_types.specs.Results.{◌>>=◌}
use Rattle.clip_model.specs.Timeline.{Timeline}
use Rattle.segment_model.specs.Listing.{ListedSegment}
use Rattle.list_model.specs.Path.{ask_of, is_local}
use Rattle.vod_source.specs.Calls.{AnswersUnlessFailed, LogsReads}
use Rattle.vod_source.specs.Stored.{Read}
use Rattle.vod_source.specs.Told.{told_with}
use Rattle.vod_source.proofs.CallLemmas.{LogsErr, logs_unmade}
use Rattle.origin_model.specs.Answers.{index_rows, is_index, path_rows, readable, readable_as}
use Rattle.origin_model.specs.Lists.{listed_segments}
use Rattle.origin_model.specs.Plans.{Cutting, planned_rows}
use Rattle.origin_model.specs.Reads.{Cache, ask_reads, if_readable, looks_of, mapping_reads_by, path_reads, turns}
use Rattle.origin_model.specs.Requests.{Setup, Asking, asking_of, cutting, timeline_asked}
use Rattle.mp4_flat.specs.Listings.{ask_rows}
use Rattle.vod_plan.specs.Turned.{AreTurns, LeavesCache}
use Rattle.vod_origin.specs.Listings.{ListsAsk, ListsPath, listed_names}
use Rattle.vod_origin.specs.Reads.{asked_names, asked_reads}
use Rattle.vod_origin.specs.Wanted.{cut_due, cut_of}
use Rattle.vod_origin.proofs.ListReads.{index_looked, names_in}
use Rattle.vod_origin.proofs.MadeReads.{none_in, reads_of_refused, reads_of_unfound}
use Rattle.vod_origin.proofs.SoughtReads.{left_by_none, reads_found, turns_none}
use Rattle.vod_origin.proofs.WantedLemmas.{cut_with}

-- ---- of what is asked for

module _ {X : Type 0} (view : X → List ListedSegment) (o : Setup) (ask : Ask) (sequence : ℕ) (asked : Asked) (leaf_is : ask.leaf ≡ Index sequence asked) where
  abbrev rows_of : Timeline × Cutting → Result (List ListedSegment) Refusal
  rows_of s = planned_rows s.1 asked s.0

  rows_are : ask_rows o ask sequence asked ≡ (cut_due o ask sequence >>= rows_of)
  unfolding listed_segments
  rows_are = by_asking (asking_of o ask)
    where
      by_timeline : (a : Asking) (r : Result Timeline Refusal) → (r >>= λ t. planned_rows (cutting o a) asked t) ≡ (r >>= cut_with o a >>= rows_of)
      by_timeline a (Ok t) = refl
      by_timeline a (Err e) = refl

      by_asking : (r : Result Asking Refusal) → (r >>= λ a. listed_segments o a sequence asked) ≡ ((r >>= λ a. cut_of o a sequence) >>= rows_of)
      by_asking (Ok a) = by_timeline a (timeline_asked o a sequence)
      by_asking (Err e) = refl

  reads_same : (cache : Cache) → asked_reads o cache true None ask ≡ ask_reads o cache false [] None ask
  unfolding asked_reads
  reads_same cache = rw leaf_is refl

  names_same : asked_names o ask ≡ (looks_of o None ask).turns
  unfolding asked_names
  names_same = refl

  -- there is no timeline
  pub rows_untimed : (cache : Cache) (log log_now : Option (List Read)) (e : Refusal) → (e ≢ NoMemory → e ≢ StoreFailed → cut_due o ask sequence ≡ Err e)
      → LogsErr e (mapping_reads_by o (is_local ask.place) ask.target) log log_now → ListsAsk view o ask sequence asked (Err e) cache cache log log_now
  rows_untimed cache log log_now e due logged =
      let read = reads_of_unfound o true None ask (index_looked o ask.leaf sequence asked leaf_is) cache log log_now e due logged in
      record {
        answered = λ known_memory known_store. rows_are ∙ ap (λ (r : Result (Timeline × Cutting) Refusal). r >>= rows_of) (due known_memory known_store);
        logged = subst (λ (reads : List Read). LogsErr e reads log log_now) (reads_same cache) read.logged;
        leaves = subst (λ (names : List (List ℕ)). LeavesCache {X = X} o.files names (Err e) cache cache) names_same read.leaves;
      }

  module _ (s : Timeline × Cutting) (timed : cut_due o ask sequence ≡ Ok s) (cache cache_now : Cache) (log log_cut log_now : Option (List Read))
      (cut : log_cut ≡ told_with log (mapping_reads_by o (is_local ask.place) ask.target)) where
    rows_due : ask_rows o ask sequence asked ≡ rows_of s
    rows_due = rows_are ∙ ap (λ (r : Result (Timeline × Cutting) Refusal). r >>= rows_of) timed

    -- its rows, or what they were refused with
    pub rows_listed : (result : Result X Refusal) → AnswersUnlessFailed view result (rows_of s) → AreTurns o.files (names_in asked s) result cache cache_now log_cut log_now
        → ListsAsk view o ask sequence asked result cache cache_now log log_now
    rows_listed (Ok x) due turned =
        let read = reads_found (names_in asked) none_in o None ask _ (index_looked o ask.leaf sequence asked leaf_is) s timed true cache cache_now log log_cut log_now cut x turned refl in
        record {
          answered = rows_due ∙ due;
          logged = read.0 ∙ ap (told_with log) (reads_same cache);
          leaves = read.1 ∙ ap (λ (names : List (List ℕ)). (turns o.files cache names).cache) names_same;
        }
    rows_listed (Err e) due turned =
        let read = reads_of_refused o true None ask (index_looked o ask.leaf sequence asked leaf_is) s timed cache cache_now log log_cut log_now cut {X = X} e turned in
        record {
          answered = λ known_memory known_store. rows_due ∙ due known_memory known_store;
          logged = subst (λ (reads : List Read). LogsErr e reads log log_now) (reads_same cache) read.logged;
          leaves = subst (λ (names : List (List ℕ)). LeavesCache {X = X} o.files names (Err e) cache cache_now) names_same read.leaves;
        }

-- ---- of a path

module _ (path : List ℕ) where
  abbrev index_by : Option Ask → Result Ask Refusal
  index_by found = ok_or (option_and_then (passing (λ ask. is_index ask.leaf)) found) BadPath

  abbrev any_by : Option Ask → Result Ask Refusal
  any_by found = ok_or (option_and_then (passing (λ (ask : Ask). true)) found) BadPath

  -- a path that isn't read is none of a playlist
  index_unread : (e : Refusal) → readable path ≡ Err e → readable_as is_index path ≡ Err e
  unfolding readable_as
  index_unread e unread = by_ask (ask_of path) unread
    where
      by_ask : (found : Option Ask) → any_by found ≡ Err e → index_by found ≡ Err e
      by_ask None unread = unread
      by_ask (Some ask) unread = absurd cc

  index_read : (ask : Ask) → readable path ≡ Ok ask → is_index ask.leaf ≡ true → readable_as is_index path ≡ Ok ask
  unfolding readable_as
  index_read ask read is = by_ask (ask_of path) read
    where
      by_ask : (found : Option Ask) → any_by found ≡ Ok ask → index_by found ≡ Ok ask
      by_ask None read = absurd cc
      by_ask (Some other) read = let same : other ≡ ask = cc in rw (same, is) refl

  index_other : (ask : Ask) → readable path ≡ Ok ask → is_index ask.leaf ≡ false → readable_as is_index path ≡ Err BadPath
  unfolding readable_as
  index_other ask read other = by_ask (ask_of path) read
    where
      by_ask : (found : Option Ask) → any_by found ≡ Ok ask → index_by found ≡ Err BadPath
      by_ask None read = absurd cc
      by_ask (Some found) read = let same : found ≡ ask = cc in rw (same, other) refl

module _ {X : Type 0} (view : X → List ListedSegment) (o : Setup) (path : List ℕ) where
  abbrev rows_by : Result Ask Refusal → Result (List ListedSegment) Refusal
  rows_by r = r >>= λ ask. asking_of o ask >>= λ a. index_rows o a ask.leaf

  rows_due_by : path_rows o path ≡ rows_by (readable_as is_index path)
  unfolding path_rows
  rows_due_by = refl

  reads_due_by : (cache : Cache) → path_reads is_index o cache false [] path None ≡ if_readable (readable_as is_index path) [] (ask_reads o cache false [] None)
  unfolding path_reads
  reads_due_by cache = refl

  -- nothing is read for it
  unlisted : (e : Refusal) → (e ≢ NoMemory → readable_as is_index path ≡ Err e) → (cache : Cache) (log : Option (List Read)) → ListsPath view o path (Err e) cache cache log log
  unlisted e unread cache log = record {
    answered = λ known_memory known_store. rows_due_by ∙ ap rows_by (unread known_memory);
    logged = logs_unmade e (path_reads is_index o cache false [] path None) log log refl
        (λ known_memory known_store. reads_due_by cache ∙ ap (λ (r : Result Ask Refusal). if_readable r [] (ask_reads o cache false [] None)) (unread known_memory));
    leaves = (
      left_by_none o.files (listed_names o path) cache,
      λ known_memory known_store.
          sym (ap (λ (r : Result Ask Refusal). (turns o.files cache (if_readable r [] (λ ask. (looks_of o None ask).turns))).cache) (unread known_memory) ∙ turns_none o.files cache),
    );
  }

  pub path_unread : (e : Refusal) → (e ≢ NoMemory → readable path ≡ Err e) → (cache : Cache) (log : Option (List Read)) → ListsPath view o path (Err e) cache cache log log
  path_unread e unread = unlisted e (λ known_memory. index_unread path e (unread known_memory))

  pub path_other : (ask : Ask) → readable path ≡ Ok ask → is_index ask.leaf ≡ false → (cache : Cache) (log : Option (List Read)) → ListsPath view o path (Err BadPath) cache cache log log
  path_other ask read other = unlisted BadPath (λ known_memory. index_other path ask read other)

  -- those of what it asks for
  pub path_listed : (ask : Ask) (sequence : ℕ) (asked : Asked) (result : Result X Refusal) (cache cache_now : Cache) (log log_now : Option (List Read)) → readable path ≡ Ok ask → ask.leaf ≡ Index sequence asked
      → ListsAsk view o ask sequence asked result cache cache_now log log_now → ListsPath view o path result cache cache_now log log_now
  path_listed ask sequence asked result cache cache_now log log_now read leaf_is lists =
      let index : readable_as is_index path ≡ Ok ask = index_read path ask read (ap is_index leaf_is) in
      let rows : path_rows o path ≡ ask_rows o ask sequence asked = rows_due_by ∙ ap rows_by index ∙ ap (λ leaf. asking_of o ask >>= λ a. index_rows o a leaf) leaf_is in
      let reads : path_reads is_index o cache false [] path None ≡ ask_reads o cache false [] None ask =
      reads_due_by cache ∙ ap (λ (r : Result Ask Refusal). if_readable r [] (ask_reads o cache false [] None)) index in
      let names : listed_names o path ≡ (looks_of o None ask).turns = ap (λ (r : Result Ask Refusal). if_readable r [] (λ ask. (looks_of o None ask).turns)) index in
      record {
        answered = subst (AnswersUnlessFailed view result) (sym rows) lists.answered;
        logged = subst (λ (all : List Read). LogsReads result all log log_now) (sym reads) lists.logged;
        leaves = subst (λ (all : List (List ℕ)). LeavesCache o.files all result cache cache_now) (sym names) lists.leaves;
      }
