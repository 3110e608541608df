-- The answers of lists, by their rows.
use Rattle.std.proofs.Common.{◌≡◌, ℕ, List, [], ◌∷◌, map, None, Result, Ok, Err, refl, ap, ◌∙◌}
use Rattle.vod_types.specs.declared.paths.Ask.{Ask}
use Rattle.vod_types.specs.declared.paths.Leaf.TheVariants.{Iframes, Index}
use Rattle.vod_types.specs.declared.refusal.Refusal.{Refusal}
use Rattle.vod_types.specs.declared.segments.IframeRow.{IframeRow}
use Rattle.vod_types.specs.declared.segments.Listed.{Listed}
use Rattle.vod_types.specs.declared.tracks.Asked.{Asked}
use Rattle.vod_types.specs.Results.{◌>>=◌}
use Rattle.clip_model.specs.Timeline.{Timeline}
use Rattle.segment_model.specs.Listing.{ListedSegment, listed_view}
use Rattle.list_model.specs.Iframes.{iframe_playlist}
use Rattle.list_model.specs.Playlist.{media_playlist}
use Rattle.list_model.specs.Reply.{Answer, leaf_body, whole}
use Rattle.origin_model.specs.Answers.{ask_answer, leaf_answer, ranged_answer, sequence_iframes}
use Rattle.origin_model.specs.Iframes.{planned_iframes}
use Rattle.origin_model.specs.Lists.{listed_segments}
use Rattle.origin_model.specs.Plans.{Cutting, planned_rows}
use Rattle.origin_model.specs.Requests.{Asking, Setup, cutting, timeline_asked}
use Rattle.vod_origin.specs.Wanted.{cut_due}
use Rattle.vod_origin.proofs.FoundAnswers.{answer_shown, answer_undue, answer_unfound}
use Rattle.vod_origin.proofs.WantedLemmas.{cut_in, cut_with}

-- the rows as they stand in the list
rows_shown : (ls : List Listed) → map (λ (l : ListedSegment). l.0) (map listed_view ls) ≡ map (λ (l : Listed). l.row) ls
rows_shown [] = refl
rows_shown (l ∷ ls) = ap (λ rows. l.row ∷ rows) (rows_shown ls)

-- The answer of a list whose rows are found in a timeline that was cut, and shown in a text.
module _ {R : Type 0} (due : Cutting → Timeline → Result (List R) Refusal) (o : Setup) (ask : Ask) (sequence : ℕ) (text_with : List R → Answer)
    (leaf_is : (a : Asking) → ranged_answer o a None ask.leaf ≡ (timeline_asked o a sequence >>= due (cutting o a) >>= text_with)) where
  abbrev rows_of : Timeline × Cutting → Result (List R) Refusal
  rows_of s = due s.1 s.0

  by_timeline : (a : Asking) (r : Result Timeline Refusal) → (r >>= due (cutting o a) >>= text_with) ≡ (r >>= cut_with o a >>= rows_of >>= text_with)
  by_timeline a (Ok t) = refl
  by_timeline a (Err e) = refl

  leaf_found : (a : Asking) → ranged_answer o a None ask.leaf ≡ (cut_in o sequence a >>= rows_of >>= text_with)
  leaf_found a = leaf_is a ∙ by_timeline a (timeline_asked o a sequence)

  no_timeline : (e : Refusal) → cut_due o ask sequence ≡ Err e → ask_answer o None ask ≡ Err e
  no_timeline = answer_unfound o ask (cut_in o sequence) rows_of text_with leaf_found

  no_rows : (t : Timeline) (c : Cutting) (e : Refusal) → cut_due o ask sequence ≡ Ok (t, c) → due c t ≡ Err e → ask_answer o None ask ≡ Err e
  no_rows t c = answer_undue o ask (cut_in o sequence) rows_of text_with leaf_found (t, c)

  with_rows : (t : Timeline) (c : Cutting) (rows : List R) → cut_due o ask sequence ≡ Ok (t, c) → due c t ≡ Ok rows → ask_answer o None ask ≡ text_with rows
  with_rows t c = answer_shown o ask (cut_in o sequence) rows_of text_with leaf_found (t, c)

-- ---- media playlists

module _ (o : Setup) (ask : Ask) (sequence : ℕ) (asked : Asked) (leaf_is : ask.leaf ≡ Index sequence asked) where
  abbrev due : Cutting → Timeline → Result (List ListedSegment) Refusal
  due c t = planned_rows c asked t

  abbrev text_with : List ListedSegment → Answer
  text_with rows = Ok (leaf_body (Index sequence asked) (media_playlist (map (λ l. l.0) rows) sequence asked o.settings.hls_fmp4) whole)

  by_leaf : (a : Asking) → ranged_answer o a None (Index sequence asked) ≡ (timeline_asked o a sequence >>= due (cutting o a) >>= text_with)
  unfolding leaf_answer listed_segments
  by_leaf a = refl

  of_ask : (a : Asking) → ranged_answer o a None ask.leaf ≡ (timeline_asked o a sequence >>= due (cutting o a) >>= text_with)
  of_ask a = ap (ranged_answer o a None) leaf_is ∙ by_leaf a

  -- there is no timeline
  pub list_untimed : (e : Refusal) → cut_due o ask sequence ≡ Err e → ask_answer o None ask ≡ Err e
  list_untimed = no_timeline due o ask sequence text_with of_ask

  -- there is one, and its rows are refused
  pub unlisted : (t : Timeline) (c : Cutting) (e : Refusal) → cut_due o ask sequence ≡ Ok (t, c) → planned_rows c asked t ≡ Err e → ask_answer o None ask ≡ Err e
  unlisted = no_rows due o ask sequence text_with of_ask

  -- they are there
  pub listed_with : (t : Timeline) (c : Cutting) (ls : List Listed) (bytes : List ℕ) → cut_due o ask sequence ≡ Ok (t, c) → planned_rows c asked t ≡ Ok (map listed_view ls)
      → bytes ≡ media_playlist (map (λ l. l.row) ls) sequence asked o.settings.hls_fmp4 → ask_answer o None ask ≡ Ok (leaf_body ask.leaf bytes whole)
  listed_with t c ls bytes is some text = with_rows due o ask sequence text_with of_ask t c (map listed_view ls) is some ∙ rw (leaf_is, text, rows_shown ls) refl

-- ---- I-frame playlists

module _ (o : Setup) (ask : Ask) (sequence video : ℕ) (leaf_is : ask.leaf ≡ Iframes sequence video) where
  abbrev marks_due : Cutting → Timeline → Result (List IframeRow) Refusal
  marks_due c t = planned_iframes c video t

  abbrev marks_with : List IframeRow → Answer
  marks_with rows = Ok (leaf_body (Iframes sequence video) (iframe_playlist rows sequence video) whole)

  by_marks : (a : Asking) → ranged_answer o a None (Iframes sequence video) ≡ (timeline_asked o a sequence >>= marks_due (cutting o a) >>= marks_with)
  unfolding leaf_answer sequence_iframes
  by_marks a = refl

  of_marks : (a : Asking) → ranged_answer o a None ask.leaf ≡ (timeline_asked o a sequence >>= marks_due (cutting o a) >>= marks_with)
  of_marks a = ap (ranged_answer o a None) leaf_is ∙ by_marks a

  pub marks_untimed : (e : Refusal) → cut_due o ask sequence ≡ Err e → ask_answer o None ask ≡ Err e
  marks_untimed = no_timeline marks_due o ask sequence marks_with of_marks

  pub unmarked : (t : Timeline) (c : Cutting) (e : Refusal) → cut_due o ask sequence ≡ Ok (t, c) → planned_iframes c video t ≡ Err e → ask_answer o None ask ≡ Err e
  unmarked = no_rows marks_due o ask sequence marks_with of_marks

  pub marked_with : (t : Timeline) (c : Cutting) (rows : List IframeRow) (bytes : List ℕ) → cut_due o ask sequence ≡ Ok (t, c) → planned_iframes c video t ≡ Ok rows
      → bytes ≡ iframe_playlist rows sequence video → ask_answer o None ask ≡ Ok (leaf_body ask.leaf bytes whole)
  marked_with t c rows bytes is some text = with_rows marks_due o ask sequence marks_with of_marks t c rows is some ∙ rw (leaf_is, text) refl
