-- What is read for a clip: what the movies that are kept leave to be read of its file, and all of its samples in the part.
use Rattle.std.proofs.Common.{◌≡◌, ◌≢◌, ℕ, Bool, true, false, List, [], ◌++◌, Option, None, Result, Ok, Err, refl, sym, ap, ap₂, ◌∙◌, subst, append-nil, append_assoc}
use Rattle.std.specs.Result.{result_unwrap_or}
use Rattle.vod_types.specs.declared.media.Media.{Media}
use Rattle.vod_types.specs.declared.paths.Ask.{Ask}
use Rattle.vod_types.specs.declared.paths.ByteRange.{ByteRange}
use Rattle.vod_types.specs.declared.paths.Leaf.{Leaf}
use Rattle.vod_types.specs.declared.paths.Leaf.TheVariants.{Clip}
use Rattle.vod_types.specs.declared.refusal.Refusal.{Refusal}
use Rattle.vod_types.specs.declared.refusal.Refusal.TheVariants.{NoMemory, StoreFailed}
use Rattle.vod_types.specs.declared.tracks.Asked.{Asked}
use Rattle.vod_types.specs.Results.{◌>>=◌}
use Rattle.vod_types.proofs.StepLemmas.{bind_ok}
use Rattle.clip_model.specs.Timeline.{Timeline}
use Rattle.list_model.specs.Path.{is_local}
use Rattle.segment_model.specs.Grid.{SegmentGrid}
use Rattle.vod_source.specs.Calls.{LogsReads}
use Rattle.vod_source.specs.Stored.{Files, Read}
use Rattle.vod_source.specs.Told.{told_with}
use Rattle.vod_source.proofs.CallLemmas.{LogsErr, logs_ended, logs_then}
use Rattle.vod_http.specs.declared.answerer.Reply.{Reply}
use Rattle.vod_http.specs.declared.answerer.Reply.TheVariants.{Body, Refused}
use Rattle.origin_model.specs.Reads.{Cache, Looks, ask_reads, clip_reads, further_names, looks_of, mapping_reads_by, names_taken, no_looks, ranged_reads, turn_names, turn_pieces, turns}
use Rattle.origin_model.specs.Answers.{lone_clip}
use Rattle.origin_model.specs.Requests.{Setup, Asking, asking_of, cutting, timeline_asked}
use Rattle.flat_clip.specs.declared.part.ClipPart.{ClipPart}
use Rattle.flat_clip.specs.Answers.{sample_reads_of}
use Rattle.flat_clip.specs.Rows.{clip_looks}
use Rattle.vod_plan.specs.Turned.{LeavesCache}
use Rattle.vod_origin.specs.Begun.{IsMadeReply}
use Rattle.vod_origin.specs.declared.cursor.Cursor.{Cursor}
use Rattle.vod_origin.specs.declared.cursor.Cursor.TheVariants.{Made, Fragment, Stream}
use Rattle.vod_origin.specs.declared.cursor.MadeBody.{MadeBody}
use Rattle.vod_origin.specs.Reads.{ReadsForAsk, asked_names, asked_reads, reads_samples, reads_to_come}
use Rattle.vod_origin.specs.Wanted.{timeline_due, timeline_in}
use Rattle.vod_origin.proofs.SoughtReads.{left_by_none, turns_none}

module _ (o : Setup) (range : Option ByteRange) (ask : Ask) (sequence : ℕ) (asked : Asked) (leaf_is : ask.leaf ≡ Clip sequence asked) (head_only : Bool) where
  abbrev mapped : List Read
  mapped = mapping_reads_by o (is_local ask.place) ask.target

  abbrev later_by : Cache → List (List ℕ) → List Read → List Read
  later_by cache names samples = (turns o.files cache names).reads ++ samples

  with_samples : reads_samples head_only ask.leaf ≡ true
  with_samples = ap (reads_samples head_only) leaf_is

  reads_are : (cache : Cache) (names : List (List ℕ)) (samples : List Read) → (looks_of o range ask).turns ≡ names → (looks_of o range ask).samples ≡ samples
      → asked_reads o cache head_only range ask ≡ mapped ++ later_by cache names samples
  unfolding asked_reads ask_reads
  reads_are cache names samples e f =
      rw with_samples (
      append_assoc mapped (turns o.files cache (names_taken (looks_of o range ask) [])).reads (looks_of o range ask).samples
      ∙ ap₂ (λ (names : List (List ℕ)) (samples : List Read). mapped ++ later_by cache names samples) (append-nil (looks_of o range ask).turns ∙ e) f)

  -- ---- there is no timeline

  abbrev looks_by : Option ByteRange → Result Asking Refusal → Looks
  looks_by r asking = result_unwrap_or (asking >>= λ a. Ok (record { turns = turn_names o a ask.leaf; further = further_names o a ask.leaf; samples = ranged_reads o a r ask.leaf })) no_looks

  no_names : (a : Asking) (e : Refusal) → timeline_asked o a sequence ≡ Err e → turn_names o a (Clip sequence asked) ≡ []
  unfolding turn_pieces
  no_names a e h = rw h refl

  no_samples : (a : Asking) (e : Refusal) → timeline_asked o a sequence ≡ Err e → ranged_reads o a range (Clip sequence asked) ≡ []
  unfolding clip_reads lone_clip
  no_samples a e h = rw h refl

  names_none : (r : Option ByteRange) (e : Refusal) → timeline_due o ask sequence ≡ Err e → (looks_of o r ask).turns ≡ []
  unfolding looks_of
  names_none r e h = by_asking (asking_of o ask) h
    where
      by_asking : (x : Result Asking Refusal) → (x >>= timeline_in o sequence) ≡ Err e → (looks_by r x).turns ≡ []
      by_asking (Ok a) h = ap (λ (l : Leaf). turn_names o a l) leaf_is ∙ no_names a e h
      by_asking (Err d) h = refl

  samples_none : (e : Refusal) → timeline_due o ask sequence ≡ Err e → (looks_of o range ask).samples ≡ []
  unfolding looks_of
  samples_none e h = by_asking (asking_of o ask) h
    where
      by_asking : (x : Result Asking Refusal) → (x >>= timeline_in o sequence) ≡ Err e → (looks_by range x).samples ≡ []
      by_asking (Ok a) h = ap (λ (l : Leaf). ranged_reads o a range l) leaf_is ∙ no_samples a e h
      by_asking (Err d) h = refl

  pub clip_unread : (cache : Cache) (log log_now : Option (List Read)) (e : Refusal) → (e ≢ NoMemory → e ≢ StoreFailed → timeline_due o ask sequence ≡ Err e)
      → LogsErr e mapped log log_now → ReadsForAsk o head_only range ask (Refused e) cache cache log log_now
  unfolding asked_names turns
  clip_unread cache log log_now e none logged =
      let looks = looks_of o range ask in record {
        logged = subst (λ (reads : List Read). LogsErr e reads log log_now) (sym (reads_are cache looks.turns looks.samples refl refl))
            (logs_ended e mapped (later_by cache looks.turns looks.samples) log log_now logged
            (λ known_memory known_store. let due = none known_memory known_store in ap₂ (later_by cache) (names_none range e due) (samples_none e due)));
        leaves = (
          left_by_none o.files (asked_names o ask) cache,
          λ known_memory known_store. sym (ap (λ (names : List (List ℕ)). (turns o.files cache names).cache) (names_none None e (none known_memory known_store)) ∙ turns_none o.files cache),
        );
      }

  -- ---- there is one

  module _ (a : Asking) (read : asking_of o ask ≡ Ok a) (t : Timeline) (timed : timeline_asked o a sequence ≡ Ok t) where
    abbrev samples_in : List Read
    samples_in = sample_reads_of (cutting o a) asked t sequence range

    names_in : turn_names o a (Clip sequence asked) ≡ clip_looks sequence t
    unfolding turn_pieces
    names_in = rw timed refl

    samples_are : ranged_reads o a range (Clip sequence asked) ≡ samples_in
    unfolding clip_reads lone_clip
    samples_are = rw timed refl

    names_of : (r : Option ByteRange) → (looks_of o r ask).turns ≡ clip_looks sequence t
    unfolding looks_of
    names_of r = ap (λ (x : Result Asking Refusal). (looks_by r x).turns) read ∙ ap (λ (l : Leaf). turn_names o a l) leaf_is ∙ names_in

    samples_of : (looks_of o range ask).samples ≡ samples_in
    unfolding looks_of
    samples_of = ap (λ (x : Result Asking Refusal). (looks_by range x).samples) read ∙ ap (λ (l : Leaf). ranged_reads o a range l) leaf_is ∙ samples_are

    asked_names_are : asked_names o ask ≡ clip_looks sequence t
    unfolding asked_names
    asked_names_are = names_of None

    module _ (cache cache_now : Cache) (log log_cut log_now : Option (List Read)) (cut : log_cut ≡ told_with log mapped) where
      all_reads : asked_reads o cache head_only range ask ≡ mapped ++ later_by cache (clip_looks sequence t) samples_in
      all_reads = reads_are cache (clip_looks sequence t) samples_in (names_of range) samples_of

      all_logged : (X : Type 0) (r : Result X Refusal) → LogsReads r (later_by cache (clip_looks sequence t) samples_in) log_cut log_now → LogsReads r (asked_reads o cache head_only range ask) log log_now
      all_logged X r logged =
          subst (λ (reads : List Read). LogsReads r reads log log_now) (sym all_reads) (logs_then r mapped (later_by cache (clip_looks sequence t) samples_in) log log_cut log_now cut logged)

      refused_in : (e : Refusal) → LogsErr e (later_by cache (clip_looks sequence t) samples_in) log_cut log_now → LeavesCache {X = Cursor} o.files (clip_looks sequence t) (Err e) cache cache_now
          → ReadsForAsk o head_only range ask (Refused e) cache cache_now log log_now
      refused_in e logged leaves = record {
        logged = all_logged Cursor (Err e) logged;
        leaves = subst (λ (names : List (List ℕ)). LeavesCache {X = Cursor} o.files names (Err e) cache cache_now) (sym asked_names_are) leaves;
      }

      none_left : (files : Files) (b : Bool) (made : MadeBody) → reads_to_come files b (Made made) ≡ []
      none_left files true made = refl
      none_left files false made = refl

      made_in : (part : ClipPart) → LogsReads {X = ClipPart} (Ok part) (later_by cache (clip_looks sequence t) samples_in) log_cut log_now → cache_now ≡ (turns o.files cache (clip_looks sequence t)).cache
          → (media : Media) (long : ℕ) (told : Option (ℕ × ℕ × ℕ)) (bytes : List ℕ) (reply : Reply Cursor) → IsMadeReply media long told bytes reply → ReadsForAsk o head_only range ask reply cache cache_now log log_now
      made_in part logged leaves media long told bytes (Refused why) made = absurd made
      made_in part logged leaves media long told bytes (Body kind n given (Made b)) made =
          let reads : List Read = asked_reads o cache head_only range ask in record {
            logged = (reads, sym (append-nil reads) ∙ ap (λ (xs : List Read). reads ++ xs) (sym (none_left o.files head_only b)), all_logged ClipPart (Ok part) logged);
            leaves = leaves ∙ ap (λ (names : List (List ℕ)). (turns o.files cache names).cache) (sym asked_names_are);
          }
      made_in part logged leaves media long told bytes (Body kind n given (Fragment b)) made = absurd made.3
      made_in part logged leaves media long told bytes (Body kind n given (Stream b)) made = absurd made.3

-- by the timeline that is due
module _ (o : Setup) (range : Option ByteRange) (ask : Ask) (sequence : ℕ) (asked : Asked) (leaf_is : ask.leaf ≡ Clip sequence asked) (head_only : Bool) (t : Timeline) (due : timeline_due o ask sequence ≡ Ok t)
    (cache cache_now : Cache) (log log_cut log_now : Option (List Read)) (cut : log_cut ≡ told_with log (mapping_reads_by o (is_local ask.place) ask.target)) where
  of : (a : Asking) × (asking_of o ask ≡ Ok a) × (timeline_asked o a sequence ≡ Ok t)
  of = bind_ok (asking_of o ask) (timeline_in o sequence) t due

  -- the part is refused
  pub clip_refused : (e : Refusal)
      → ((a : Asking) → LogsErr e ((turns o.files cache (clip_looks sequence t)).reads ++ sample_reads_of (cutting o a) asked t sequence range) log_cut log_now)
      → LeavesCache {X = ClipPart} o.files (clip_looks sequence t) (Err e) cache cache_now → ReadsForAsk o head_only range ask (Refused e) cache cache_now log log_now
  clip_refused e logged leaves = refused_in o range ask sequence asked leaf_is head_only of.0 of.1 t of.2 cache cache_now log log_cut log_now cut e (logged of.0) leaves

  -- or made
  pub clip_made : (part : ClipPart)
      → ((a : Asking) → LogsReads {X = ClipPart} (Ok part) ((turns o.files cache (clip_looks sequence t)).reads ++ sample_reads_of (cutting o a) asked t sequence range) log_cut log_now)
      → LeavesCache o.files (clip_looks sequence t) (Ok part) cache cache_now
      → (media : Media) (long : ℕ) (told : Option (ℕ × ℕ × ℕ)) (bytes : List ℕ) (reply : Reply Cursor) → IsMadeReply media long told bytes reply → ReadsForAsk o head_only range ask reply cache cache_now log log_now
  clip_made part logged leaves = made_in o range ask sequence asked leaf_is head_only of.0 of.1 t of.2 cache cache_now log log_cut log_now cut part (logged of.0) leaves
