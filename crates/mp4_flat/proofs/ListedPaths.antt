-- The listed rows of a path: what is due, and what is read for it.
use Rattle.std.proofs.Common.{◌≡◌, ◌≢◌, ℕ, true, false, List, [], ◌++◌, map, Option, Some, None, Result, Ok, Err, refl, sym, ap, ◌∙◌, subst, append-nil}
use Rattle.std.specs.Prelude.{codes, ok_or, IsErr}
use Rattle.std.specs.List.{items_where_true}
use Rattle.std.specs.Result.{result_map_both}
use Rattle.vod_types.specs.declared.paths.Ask.{Ask}
use Rattle.vod_types.specs.declared.paths.Leaf.{Leaf}
use Rattle.vod_types.specs.declared.paths.Leaf.TheVariants.{Index}
use Rattle.vod_types.specs.declared.refusal.Refusal.{Refusal}
use Rattle.vod_types.specs.declared.refusal.Refusal.TheVariants as refusals
use Rattle.vod_types.specs.declared.refusal.Refusal.TheVariants.{NoMemory}
use Rattle.vod_types.specs.declared.tracks.Asked.{Asked}
use Rattle.vod_types.specs.Results.{◌>>=◌}
use Rattle.vod_types.proofs.StepLemmas.{ok_or_ok}
use Rattle.segment_model.specs.Listing.{ListedSegment}
use Rattle.list_model.specs.Path.{ask_of, is_local}
use Rattle.vod_source.specs.Stored.{Read}
use Rattle.vod_source.specs.Told.{told_with}
use Rattle.origin_model.specs.Answers.{is_index, path_rows, readable_as}
use Rattle.origin_model.specs.Lists.{listed_segments}
use Rattle.origin_model.specs.Reads as reads
use Rattle.origin_model.specs.Reads.{ask_reads, further_names, looks_of, mapping_reads_by, path_reads, sample_reads, turn_names, turn_pieces, turns}
use Rattle.origin_model.specs.Requests.{Setup, Asking, asking_of}
use Rattle.vod_types.specs.declared.segments.Listed.{Listed}
use Rattle.vod_source.specs.Calls.{AnswersUnlessFailed, LogsReads, Came}
use Rattle.segment_model.specs.Listing.{listed_view}
use Rattle.mp4_flat.specs.Listings.{AreListed, ask_rows, index_turns}
use Rattle.vod_source.proofs.CallLemmas.{logs_then, logs_unmade}
use Rattle.mp4_flat.proofs.Leaves.{ended, no_turns}

-- ---- a request

module _ {X : Type 0} (view : X → List ListedSegment) (o : Setup) (ask : Ask) (sequence : ℕ) (asked : Asked) (leaf : ask.leaf ≡ Index sequence asked) where
  abbrev mapped : List Read
  mapped = mapping_reads_by o (is_local ask.place) ask.target

  abbrev looks_by : Result Asking Refusal → reads.Looks
  looks_by (Ok a) = record { turns = turn_names o a ask.leaf; further = further_names o a ask.leaf; samples = reads.ranged_reads o a None ask.leaf }
  looks_by (Err e) = reads.no_looks

  looks_are : (r : Result Asking Refusal) → asking_of o ask ≡ r → looks_of o None ask ≡ looks_by r
  unfolding looks_of
  looks_are (Ok a) e = rw e refl
  looks_are (Err d) e = rw e refl

  abbrev later_reads : reads.Looks → List Read
  later_reads l = (turns o.files [] (reads.names_taken l [])).reads

  all_reads : ask_reads o [] false [] None ask ≡ mapped ++ later_reads (looks_of o None ask)
  unfolding ask_reads
  all_reads = append-nil (mapped ++ later_reads (looks_of o None ask))

  index_later : (a : Asking) (l : Leaf) → l ≡ Index sequence asked
      → later_reads (record { turns = turn_names o a l; further = further_names o a l; samples = reads.ranged_reads o a None l }) ≡ index_turns o a sequence asked
  unfolding further_names
  index_later a l e =
      ap (λ (l : Leaf). (turns o.files [] (turn_names o a l ++ items_where_true [] (further_names o a l))).reads) e
      ∙ ap (λ (names : List (List ℕ)). (turns o.files [] names).reads) (append-nil (turn_names o a (Index sequence asked)))

  -- what is asked was refused
  pub ask_refused : {Y : Type 0} (seen : Y → Asking) (e : Refusal) (log log_now : Option (List Read)) → Came {X = Y} seen (Err e) (asking_of o ask) mapped log log_now
      → Came view (Err e) (ask_rows o ask sequence asked) (ask_reads o [] false [] None ask) log log_now
  ask_refused seen e log log_now came =
      ended view e (ask_rows o ask sequence asked) mapped (later_reads (looks_of o None ask)) (ask_reads o [] false [] None ask) log log_now
      (λ known_memory known_store. ap (λ (r : Result Asking Refusal). r >>= λ a. listed_segments o a sequence asked) (came.answered known_memory known_store))
      came.logged all_reads (λ known_memory known_store. ap later_reads (looks_are (Err e) (came.answered known_memory known_store)) ∙ no_turns o.files)

  pub ask_answered : (a : Asking) (result : Result X Refusal) (log log_asked log_now : Option (List Read)) → asking_of o ask ≡ Ok a → log_asked ≡ told_with log mapped
      → Came view result (listed_segments o a sequence asked) (index_turns o a sequence asked) log_asked log_now
      → Came view result (ask_rows o ask sequence asked) (ask_reads o [] false [] None ask) log log_now
  ask_answered a result log log_asked log_now is made came =
      let all = all_reads ∙ ap (λ (l : reads.Looks). mapped ++ later_reads l) (looks_are (Ok a) is) ∙ ap (λ (later : List Read). mapped ++ later) (index_later a ask.leaf leaf) in
      record {
        answered = subst (AnswersUnlessFailed view result) (sym (ap (λ (r : Result Asking Refusal). r >>= λ a. listed_segments o a sequence asked) is)) came.answered;
        logged = subst (λ (reads : List Read). LogsReads result reads log log_now) (sym all) (logs_then result mapped (index_turns o a sequence asked) log log_asked log_now made came.logged);
      }

-- ---- a path

module _ {X : Type 0} (items : X → List Listed) (o : Setup) (path : List ℕ) where
  abbrev view : X → List ListedSegment
  view x = map listed_view (items x)

  abbrev seen : Result X Refusal → Result (List Listed) Refusal
  seen result = result_map_both items (λ refusal. refusal) result

  readable_none : ask_of path ≡ None → readable_as is_index path ≡ Err refusals.BadPath
  unfolding readable_as
  readable_none e = rw e refl

  rows_none : ask_of path ≡ None → path_rows o path ≡ Err refusals.BadPath
  unfolding path_rows readable_as
  rows_none e = rw e refl

  rows_other : (ask : Ask) → ask_of path ≡ Some ask → is_index ask.leaf ≡ false → path_rows o path ≡ Err refusals.BadPath
  unfolding path_rows readable_as
  rows_other ask e b = rw (e, b) refl

  readable_index : (ask : Ask) → ask_of path ≡ Some ask → is_index ask.leaf ≡ true → readable_as is_index path ≡ Ok ask
  unfolding readable_as
  readable_index ask e b = rw (e, b) refl

  rows_index : (ask : Ask) (sequence : ℕ) (asked : Asked) → ask_of path ≡ Some ask → ask.leaf ≡ Index sequence asked → path_rows o path ≡ ask_rows o ask sequence asked
  unfolding path_rows readable_as
  rows_index ask sequence asked e leaf =
      rw (e, leaf) refl

  abbrev reads_due : List Read
  reads_due = path_reads is_index o [] false [] path None

  -- of a call that came to what is due
  listed_by : (result : Result X Refusal) (log log_now : Option (List Read)) → Came view result (path_rows o path) reads_due log log_now → AreListed o path (seen result) log log_now
  listed_by (Ok x) log log_now came = record { answered = came.answered; reads = reads_due; reads_are = record { taken = []; are = refl }; logged = came.logged }
  listed_by (Err e) log log_now came = record { answered = came.answered; reads = reads_due; reads_are = record { taken = []; are = refl }; logged = came.logged }

  reads_none : (e : Refusal) → readable_as is_index path ≡ Err e → reads_due ≡ []
  unfolding path_reads
  reads_none e is = rw is refl

  -- nothing was read
  unread : (e : Refusal) (log : Option (List Read)) → (e ≢ NoMemory → path_rows o path ≡ Err e) → (e ≢ NoMemory → reads_due ≡ []) → AreListed o path (seen (Err e)) log log
  unread e log due none =
      listed_by (Err e) log log (record { answered = λ known_memory known_store. due known_memory; logged = logs_unmade e reads_due log log refl (λ known_memory known_store. none known_memory) })

  -- the path isn't in the grammar
  pub path_refused : (e : Refusal) (log : Option (List Read)) → (e ≢ NoMemory → ok_or (ask_of path) refusals.BadPath ≡ Err e) → AreListed o path (seen (Err e)) log log
  path_refused e log h = unread e log (λ known_memory. (by_ask (ask_of path) refl (h known_memory)).0) (λ known_memory. (by_ask (ask_of path) refl (h known_memory)).1)
    where
      by_ask : (found : Option Ask) → ask_of path ≡ found → ok_or found refusals.BadPath ≡ Err e → (path_rows o path ≡ Err e) × (reads_due ≡ [])
      by_ask None is refused = (rows_none is ∙ cc, reads_none refusals.BadPath (readable_none is))
      by_ask (Some ask) is refused = absurd cc

  readable_other : (ask : Ask) → ask_of path ≡ Some ask → is_index ask.leaf ≡ false → readable_as is_index path ≡ Err refusals.BadPath
  unfolding readable_as
  readable_other ask e b = rw (e, b) refl

  -- it is of another kind
  pub other_refused : (ask : Ask) (log : Option (List Read)) → ok_or (ask_of path) refusals.BadPath ≡ Ok ask → is_index ask.leaf ≡ false → AreListed o path (seen (Err refusals.BadPath)) log log
  other_refused ask log read other =
      let is = ok_or_ok (ask_of path) refusals.BadPath ask read in
      unread refusals.BadPath log (λ known_memory. rows_other ask is other) (λ known_memory. reads_none refusals.BadPath (readable_other ask is other))

  reads_index : (ask : Ask) → readable_as is_index path ≡ Ok ask → reads_due ≡ ask_reads o [] false [] None ask
  unfolding path_reads
  reads_index ask is = rw is refl

  pub path_answered : (ask : Ask) (sequence : ℕ) (asked : Asked) (result : Result X Refusal) (log log_now : Option (List Read)) → ok_or (ask_of path) refusals.BadPath ≡ Ok ask → ask.leaf ≡ Index sequence asked
      → Came view result (ask_rows o ask sequence asked) (ask_reads o [] false [] None ask) log log_now → AreListed o path (seen result) log log_now
  path_answered ask sequence asked result log log_now read leaf came =
      let is = ok_or_ok (ask_of path) refusals.BadPath ask read in
      let all = reads_index ask (readable_index ask is (ap is_index leaf)) in
      listed_by result log log_now (record {
        answered = subst (AnswersUnlessFailed view result) (sym (rows_index ask sequence asked is leaf)) came.answered;
        logged = subst (λ (reads : List Read). LogsReads result reads log log_now) (sym all) came.logged;
      })

  -- a path of a media playlist is read
  pub index_is_readable : (ask : Ask) (sequence : ℕ) (asked : Asked) → ok_or (ask_of path) refusals.BadPath ≡ Ok ask → ask.leaf ≡ Index sequence asked → IsErr (readable_as is_index path) → ⊥
  index_is_readable ask sequence asked read leaf err =
      by_readable (readable_as is_index path) (readable_index ask (ok_or_ok (ask_of path) refusals.BadPath ask read) (ap is_index leaf)) err
    where
      by_readable : (r : Result Ask Refusal) → r ≡ Ok ask → IsErr r → ⊥
      by_readable (Ok found) e err = absurd cc
      by_readable (Err d) e err = absurd cc
