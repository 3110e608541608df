-- The answer of an init segment, by its timeline.
use Rattle.std.proofs.Common.{◌≡◌, ℕ, List, None, Result, Ok, Err, refl, ap, ◌∙◌}
use Rattle.vod_types.specs.declared.paths.Ask.{Ask}
use Rattle.vod_types.specs.declared.paths.Leaf.TheVariants.{Init}
use Rattle.vod_types.specs.declared.refusal.Refusal.{Refusal}
use Rattle.vod_types.specs.declared.tracks.Asked.{Asked}
use Rattle.vod_types.specs.Results.{◌>>=◌, Answers}
use Rattle.clip_model.specs.declared.Piece.{Piece}
use Rattle.clip_model.specs.Timeline.{Timeline}
use Rattle.list_model.specs.Reply.{Answer, leaf_body, whole}
use Rattle.vod_source.specs.Calls.{AnswersUnlessFailed}
use Rattle.origin_model.specs.Answers.{ask_answer, init_answer, leaf_answer, ranged_answer}
use Rattle.origin_model.specs.Bodies.{init_body}
use Rattle.origin_model.specs.Loaded.{CheckedPiece, checked}
use Rattle.origin_model.specs.Requests.{Asking, Setup, asking_of, honours_edits, init_piece, timeline_asked}
use Rattle.seek_lists.specs.Inits.{part_init}
use Rattle.vod_origin.specs.Wanted.{timeline_due, timeline_in}
use Rattle.vod_origin.proofs.FoundAnswers.{answer_shown, answer_undue, answer_unfound}

-- the timeline is that of what is asked for
pub timeline_told : (o : Setup) (ask : Ask) (sequence : ℕ) (a : Asking) (result : Result Timeline Refusal) → asking_of o ask ≡ Ok a → Answers (λ t. t) result (timeline_asked o a sequence)
    → AnswersUnlessFailed (λ t. t) result (timeline_due o ask sequence)
timeline_told o ask sequence a (Ok t) is answers = ap (λ (r : Result Asking Refusal). r >>= timeline_in o sequence) is ∙ answers
timeline_told o ask sequence a (Err e) is answers = λ known_memory known_store. ap (λ (r : Result Asking Refusal). r >>= timeline_in o sequence) is ∙ answers known_memory

module _ (o : Setup) (ask : Ask) (part sequence : ℕ) (asked : Asked) (leaf_is : ask.leaf ≡ Init part sequence asked) where
  abbrev due : Timeline → Result (List ℕ) Refusal
  due t = part_init o.files (honours_edits o) asked t part

  abbrev shown_as : List ℕ → Answer
  shown_as bytes = Ok (leaf_body (Init part sequence asked) bytes whole)

  abbrev body_of : CheckedPiece → Answer
  body_of c = Ok (leaf_body (Init part sequence asked) (init_body c) whole)

  by_leaf : (a : Asking) → ranged_answer o a None (Init part sequence asked) ≡ (timeline_in o sequence a >>= due >>= shown_as)
  unfolding leaf_answer init_answer
  by_leaf a = by_timeline (timeline_asked o a sequence)
    where
      by_checked : (r : Result CheckedPiece Refusal) → (r >>= body_of) ≡ (r >>= (λ c. Ok (init_body c)) >>= shown_as)
      by_checked (Ok c) = refl
      by_checked (Err e) = refl

      by_piece : (r : Result Piece Refusal) → (r >>= λ piece. checked o.files (honours_edits o) asked piece >>= body_of)
          ≡ ((r >>= λ piece. checked o.files (honours_edits o) asked piece >>= λ c. Ok (init_body c)) >>= shown_as)
      by_piece (Ok piece) = by_checked (checked o.files (honours_edits o) asked piece)
      by_piece (Err e) = refl

      by_timeline : (r : Result Timeline Refusal) → (r >>= λ t. init_piece t part >>= λ piece. checked o.files (honours_edits o) asked piece >>= body_of) ≡ (r >>= due >>= shown_as)
      by_timeline (Ok t) = by_piece (init_piece t part)
      by_timeline (Err e) = refl

  of_ask : (a : Asking) → ranged_answer o a None ask.leaf ≡ (timeline_in o sequence a >>= due >>= shown_as)
  of_ask a = ap (ranged_answer o a None) leaf_is ∙ by_leaf a

  -- there is no timeline
  pub init_untimed : (e : Refusal) → timeline_due o ask sequence ≡ Err e → ask_answer o None ask ≡ Err e
  init_untimed = answer_unfound o ask (timeline_in o sequence) due shown_as of_ask

  -- there is one, and its part has none
  pub init_undue : (t : Timeline) (e : Refusal) → timeline_due o ask sequence ≡ Ok t → part_init o.files (honours_edits o) asked t part ≡ Err e → ask_answer o None ask ≡ Err e
  init_undue = answer_undue o ask (timeline_in o sequence) due shown_as of_ask

  -- it is there
  pub init_with : (t : Timeline) (bytes : List ℕ) → timeline_due o ask sequence ≡ Ok t → part_init o.files (honours_edits o) asked t part ≡ Ok bytes
      → ask_answer o None ask ≡ Ok (leaf_body ask.leaf bytes whole)
  init_with t bytes is some = answer_shown o ask (timeline_in o sequence) due shown_as of_ask t bytes is some ∙ rw leaf_is refl
