-- What a clip is answered with, and its reads.
use Rattle.std.proofs.Common.{◌≡◌, ◌≢◌, ℕ, Bool, List, [], ◌∷◌, ◌++◌, map, Option, Some, None, Result, Ok, Err, inl, inr, refl, sym, ap, ◌∙◌, subst}
use Rattle.std.specs.Result.{result_map_both, result_unwrap_or}
use Rattle.vod_types.specs.declared.paths.Ask.{Ask}
use Rattle.vod_types.specs.declared.paths.ByteRange.{ByteRange}
use Rattle.vod_types.specs.declared.paths.Leaf.{Leaf}
use Rattle.vod_types.specs.declared.paths.Leaf.TheVariants.{Clip}
use Rattle.vod_types.specs.declared.refusal.Refusal.{Refusal}
use Rattle.vod_types.specs.declared.refusal.Refusal.TheVariants.{NoMemory}
use Rattle.vod_types.specs.declared.tracks.Asked.{Asked}
use Rattle.vod_types.specs.Results.{◌>>=◌}
use Rattle.clip_model.specs.declared.Piece.{Piece}
use Rattle.clip_model.specs.Timeline.{Timeline}
use Rattle.list_model.specs.Reply.{Answer}
use Rattle.list_model.specs.Path.{is_local}
use Rattle.vod_source.specs.Stored.{Read}
use Rattle.vod_source.specs.Told.{told_with}
use Rattle.vod_source.specs.Calls.{AnswersUnlessFailed, LogsReads, Came}
use Rattle.vod_source.proofs.CallLemmas.{logs_unmade}
use Rattle.origin_model.specs.Answers.{clip_answer, leaf_answer, lone_clip, ranged_answer}
use Rattle.origin_model.specs.Clips.{PlannedClip, checked_part, clip_body, one_piece, part_reads, planned_clip}
use Rattle.origin_model.specs.Plans.{pieces_or_none}
use Rattle.origin_model.specs.Reads.{clip_reads, mapping_reads_by, ranged_reads, turn_names, turn_pieces, turns}
use Rattle.origin_model.specs.Requests.{Setup, Asking, asking_of, cutting, honours_edits, timeline_asked}
use Rattle.flat_segments.specs.declared.body.FlatBody.{FlatBody}
use Rattle.flat_segments.specs.Bodies.{flat_shown}
use Rattle.answer_laws.specs.Refusals.{IsPathRefusal}
use Rattle.flat_clip.specs.Answers.{IsClipRefusal, PartFacts, due_part, part_reads_of, part_view, planned_part}
use Rattle.flat_clip.specs.declared.part.ClipPart.{ClipPart}
use Rattle.flat_clip.specs.Rows.{clip_looks, cutting_of}
use Rattle.mp4_flat.specs.Flat.{IsClipAnswer, IsClipAsked, IsLeafAnswer, bytes_and_part, clip_looked, clip_seen, clip_shown, flat_seen, part_shown}
use Rattle.mp4_flat.proofs.AnsweredPaths.{ask_answered}
use Rattle.mp4_flat.proofs.Leaves.{no_turns}

module _ (o : Setup) (a : Asking) (sequence : ℕ) (asked : Asked) where
  abbrev times : Result Timeline Refusal
  times = timeline_asked o a sequence

  abbrev planned_in : Timeline → Result PlannedClip Refusal
  planned_in t = planned_clip (cutting o a) asked t sequence

  abbrev named_in : Result Timeline Refusal → List Read
  named_in r = (turns o.files [] (map (λ p. p.name) (pieces_or_none (r >>= λ t. one_piece sequence t >>= λ piece. Ok (piece ∷ []))))).reads

  module _ (range : Option ByteRange) where
    abbrev body_of : PlannedClip → Answer
    body_of clip = checked_part clip range >>= λ part. Ok (clip_body clip o.files sequence asked range part)

    abbrev reads_of : PlannedClip → Result (List Read) Refusal
    reads_of clip = checked_part clip range >>= λ part. Ok (part_reads clip part)

    abbrev answer_by : Result Timeline Refusal → Answer
    answer_by r = (r >>= planned_in) >>= body_of

    abbrev looked_by : Result Timeline Refusal → List Read
    looked_by r = named_in r ++ result_unwrap_or ((r >>= planned_in) >>= reads_of) []

    answer_is : clip_answer o a sequence asked range ≡ answer_by times
    unfolding clip_answer lone_clip
    answer_is = refl

    looked_is : clip_looked o a sequence asked range ≡ looked_by times
    unfolding turn_pieces clip_reads lone_clip
    looked_is = refl

    -- there is no timeline
    pub clip_untimed : (e : Refusal) (log : Option (List Read)) → (e ≢ NoMemory → times ≡ Err e) → IsClipAnswer o a sequence asked range (Err e) log log
    clip_untimed e log h = record {
      answered = λ known_memory known_store. ap clip_seen (answer_is ∙ ap answer_by (h known_memory));
      logged = logs_unmade e (clip_looked o a sequence asked range) log log refl (λ known_memory known_store. looked_is ∙ ap looked_by (h known_memory) ∙ ap (λ (xs : List Read). xs ++ []) (no_turns o.files));
    }

    seen_part : (clip : PlannedClip) → clip_seen (body_of clip) ≡ result_map_both (part_shown range) (λ r. r) (checked_part clip range >>= λ part. Ok (planned_part o.files range clip part))
    seen_part clip = by_part range (checked_part clip range)
      where
        by_part : (range : Option ByteRange) (r : Result (ℕ × ℕ) Refusal) → clip_seen (r >>= λ part. Ok (clip_body clip o.files sequence asked range part))
            ≡ result_map_both (part_shown range) (λ r. r) (r >>= λ part. Ok (planned_part o.files range clip part))
        by_part None (Ok part) = refl
        by_part (Some given) (Ok part) = refl
        by_part range (Err e) = refl

    seen_due : (t : Timeline) → clip_seen (answer_by (Ok t)) ≡ result_map_both (part_shown range) (λ r. r) (due_part (cutting o a) asked t sequence range)
    unfolding due_part
    seen_due t = by_clip (planned_in t)
      where
        by_clip : (r : Result PlannedClip Refusal) → clip_seen (r >>= body_of)
            ≡ result_map_both (part_shown range) (λ r. r) (r >>= λ clip. checked_part clip range >>= λ part. Ok (planned_part o.files range clip part))
        by_clip (Ok clip) = seen_part clip
        by_clip (Err e) = refl

    looked_due : (t : Timeline) → looked_by (Ok t) ≡ part_reads_of (cutting o a) asked t sequence range
    unfolding part_reads_of
    looked_due t = ap (λ (r : Result (List Read) Refusal). named_in (Ok t) ++ result_unwrap_or r []) (by_clip (planned_in t))
      where
        by_clip : (r : Result PlannedClip Refusal) → (r >>= reads_of) ≡ (r >>= λ clip. checked_part clip range >>= λ part. Ok (part_reads clip part))
        by_clip (Ok clip) = refl
        by_clip (Err e) = refl

    shown_as : (result : Result ClipPart Refusal) (due : Result PartFacts Refusal) → AnswersUnlessFailed part_view result due
        → AnswersUnlessFailed (clip_shown range) result (result_map_both (part_shown range) (λ r. r) due)
    shown_as (Ok part) due is = ap (result_map_both (part_shown range) (λ r. r)) is
    shown_as (Err e) due is = λ known_memory known_store. ap (result_map_both (part_shown range) (λ r. r)) (is known_memory known_store)

    -- there is one, and its part came to this
    pub clip_timed : (t : Timeline) (edits : Bool) (result : Result ClipPart Refusal) (log log_now : Option (List Read)) → times ≡ Ok t → edits ≡ honours_edits o
        → Came part_view result (due_part (cutting_of o.files edits (cutting o a).grid (cutting o a).align) asked t sequence range)
        (part_reads_of (cutting_of o.files edits (cutting o a).grid (cutting o a).align) asked t sequence range) log log_now
        → IsClipAnswer o a sequence asked range result log log_now
    clip_timed t edits result log log_now timed same came =
        let whole = subst
        (λ (e : Bool). Came part_view result (due_part (cutting_of o.files e (cutting o a).grid (cutting o a).align) asked t sequence range)
        (part_reads_of (cutting_of o.files e (cutting o a).grid (cutting o a).align) asked t sequence range) log log_now) same came in
        record {
          answered = subst (AnswersUnlessFailed (clip_shown range) result) (sym (ap clip_seen (answer_is ∙ ap answer_by timed) ∙ seen_due t)) (shown_as result _ whole.answered);
          logged = subst (λ (reads : List Read). LogsReads result reads log log_now) (sym (looked_is ∙ ap looked_by timed ∙ looked_due t)) whole.logged;
        }

  -- ---- a whole clip

  -- it isn't cut
  uncut : flat_seen (leaf_answer o a (Clip sequence asked)) ≡ result_map_both (λ (p : List ℕ × Option (ℕ × ℕ × ℕ)). (p.0, None)) (λ r. r) (clip_seen (clip_answer o a sequence asked None))
  unfolding leaf_answer clip_answer
  uncut = by_clip (lone_clip o a sequence asked)
    where
      by_part : (clip : PlannedClip) (r : Result (ℕ × ℕ) Refusal) → flat_seen (r >>= λ part. Ok (clip_body clip o.files sequence asked None part))
          ≡ result_map_both (λ (p : List ℕ × Option (ℕ × ℕ × ℕ)). (p.0, None)) (λ r. r) (clip_seen (r >>= λ part. Ok (clip_body clip o.files sequence asked None part)))
      by_part clip (Ok part) = refl
      by_part clip (Err e) = refl

      by_clip : (r : Result PlannedClip Refusal) → flat_seen (r >>= body_of None) ≡ result_map_both (λ (p : List ℕ × Option (ℕ × ℕ × ℕ)). (p.0, None)) (λ r. r) (clip_seen (r >>= body_of None))
      by_clip (Ok clip) = by_part clip (checked_part clip None)
      by_clip (Err e) = refl

  pub whole_clip : (part : ClipPart) (body : FlatBody) (log log_now : Option (List Read)) → flat_shown body ≡ ((part_view part).bytes, None)
      → IsClipAnswer o a sequence asked None (Ok part) log log_now → IsLeafAnswer o a (Clip sequence asked) (Ok body) log log_now
  whole_clip part body log log_now is came = record {
    answered = uncut ∙ ap (result_map_both (λ (p : List ℕ × Option (ℕ × ℕ × ℕ)). (p.0, None)) (λ r. r)) came.answered ∙ ap Ok (sym is);
    logged = came.logged;
  }

  pub whole_refused : (e : Refusal) (log log_now : Option (List Read)) → IsClipAnswer o a sequence asked None (Err e) log log_now → IsLeafAnswer o a (Clip sequence asked) (Err e) log log_now
  whole_refused e log log_now came = record {
    answered = λ known_memory known_store. uncut ∙ ap (result_map_both (λ (p : List ℕ × Option (ℕ × ℕ × ℕ)). (p.0, None)) (λ r. r)) (came.answered known_memory known_store);
    logged = came.logged;
  }

-- without a range a clip is refused as a path may be
pub unranged_refusal : (e : Refusal) → IsClipRefusal None e → IsPathRefusal e
unranged_refusal e (inl path) = path
unranged_refusal e (inr (n, is, none)) = absurd none

-- the request for a clip is answered with it
pub clip_asked : (o : Setup) (range : Option ByteRange) (ask : Ask) (sequence : ℕ) (asked : Asked) (a : Asking) (result : Result ClipPart Refusal) (log log_asked log_now : Option (List Read))
    → ask.leaf ≡ Clip sequence asked → asking_of o ask ≡ Ok a → log_asked ≡ told_with log (mapping_reads_by o (is_local ask.place) ask.target)
    → IsClipAnswer o a sequence asked range result log_asked log_now → IsClipAsked o range ask result log log_now
clip_asked o range ask sequence asked a result log log_asked log_now leaf read made came =
    ask_answered o range ask (clip_shown range) bytes_and_part a result (clip_answer o a sequence asked range) log log_asked log_now
    (ap (ranged_answer o a range) leaf) read made
    (subst (λ (reads : List Read). Came (clip_shown range) result (clip_seen (clip_answer o a sequence asked range)) reads log_asked log_now)
    (sym (ap (λ (l : Leaf). (turns o.files [] (turn_names o a l)).reads ++ ranged_reads o a range l) leaf)) came)
