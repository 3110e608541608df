-- The packaging of a path: what is due, and how a call that puts it ends.
use Rattle.std.proofs.Common.{◌≡◌, ◌≢◌, ℕ, Bool, true, false, List, [], ◌∷◌, ◌++◌, Option, Some, None, Result, Ok, Err, refl, sym, ap, ap₂, ◌∙◌, subst}
use Rattle.std.specs.Prelude.{ok_or, IsErr, IsErrOf, flat_map, length}
use Rattle.std.specs.List.{range_with_len}
use Rattle.std.specs.Result.{result_unwrap_or}
use Rattle.std.proofs.lemmas.List.FromFn.{length-range_with_len}
use Rattle.vod_types.specs.declared.paths.Ask.{Ask}
use Rattle.vod_types.specs.declared.paths.Leaf.{Leaf}
use Rattle.vod_types.specs.declared.paths.Leaf.TheVariants.{Master, Mpd, Index, Init, Segment, Iframes, Iframe, Clip}
use Rattle.vod_types.specs.declared.refusal.Refusal.{Refusal}
use Rattle.vod_types.specs.declared.refusal.Refusal.TheVariants as refusals
use Rattle.vod_types.specs.declared.refusal.Refusal.TheVariants.{NoMemory, StoreFailed}
use Rattle.vod_types.proofs.StepLemmas.{ok_or_ok}
use Rattle.vod_source.specs.Calls.{AnswersUnlessFailed}
use Rattle.vod_source.specs.Told.{told_with, GrewByPrefix}
use Rattle.vod_source.proofs.ToldLemmas.{GrewByPrefix-same, told_with-nil}
use Rattle.list_model.specs.Names.{IsLeafOf}
use Rattle.list_model.specs.Pack.{dash_leaves, pack}
use Rattle.list_model.specs.Path.{ask_of, is_dash}
use Rattle.list_model.specs.declared.Period.{Period}
use Rattle.origin_model.specs.Answers.{leaf_answer, readable_as}
use Rattle.origin_model.specs.Lists.{periods, sequence_numbers}
use Rattle.origin_model.specs.Packaging.{is_packed, packed_ask, packed_asking, packed_by, packed_leaves, packed_path}
use Rattle.origin_model.specs.Requests.{Setup, Asking, asking_of}
use Rattle.mp4_flat.specs.Packed.{HasFailed, IsPacked, IsPackedAs, described_leaves, is_description, packed_asked}
use Rattle.mp4_flat.specs.declared.entries.PackEnd.{PackEnd}
use Rattle.mp4_flat.specs.declared.entries.PackEnd.TheVariants.{Whole, Refused, SinkFailed}

-- ---- nothing was put

-- before a refusal that is due, or after a failure
pub packed_none : (due : List ℕ × Option Refusal) (r : Refusal) (told : Option (List ℕ)) → (r ≢ NoMemory → r ≢ StoreFailed → due ≡ ([], Some r)) → IsPackedAs due (Refused r) told told
packed_none due r told is = (
  GrewByPrefix-same told told due.0 refl,
  λ memory store. (
    ap (λ (due : List ℕ × Option Refusal). due.1) (is memory store),
    sym (told_with-nil told) ∙ ap (λ (due : List ℕ × Option Refusal). told_with told due.0) (sym (is memory store)),
  ),
)

-- after a call that only fails
pub packed_failed : (due : List ℕ × Option Refusal) (r : Refusal) (told : Option (List ℕ)) → HasFailed r → IsPackedAs due (Refused r) told told
packed_failed due r told failed = packed_none due r told (λ memory store. absurd (failed memory store))

-- ---- a request

-- the list that is asked for tells the protocol
pub protocol_is : (dash : Bool) (leaf : Leaf) → is_packed leaf ≡ true → IsLeafOf dash leaf → is_description leaf ≡ dash
protocol_is dash Master e of = sym of
protocol_is dash Mpd e of = sym of
protocol_is dash (Index sequence asked) e of = absurd cc
protocol_is dash (Init part sequence asked) e of = absurd cc
protocol_is dash (Segment number sequence asked form) e of = absurd cc
protocol_is dash (Iframes sequence video) e of = absurd cc
protocol_is dash (Iframe number index sequence video) e of = absurd cc
protocol_is dash (Clip sequence asked) e of = absurd cc

module _ (o : Setup) (ask : Ask) where
  pub asked_refused : (r : Refusal) (told : Option (List ℕ)) → (r ≢ NoMemory → r ≢ StoreFailed → asking_of o ask ≡ Err r) → IsPackedAs (packed_asked o ask) (Refused r) told told
  asked_refused r told is = packed_none (packed_asked o ask) r told (λ memory store. ap (packed_asking o ask) (is memory store))

  pub asked_packed : (a : Asking) (end : PackEnd) (told now : Option (List ℕ)) → asking_of o ask ≡ Ok a → is_packed ask.leaf ≡ true → IsLeafOf (is_dash ask.place) ask.leaf
      → IsPackedAs (packed_by o (is_description ask.leaf) a ask.leaf) end told now → IsPackedAs (packed_asked o ask) end told now
  asked_packed a end told now is leaf of put =
      subst (λ (due : List ℕ × Option Refusal). IsPackedAs due end told now)
      (ap (λ (dash : Bool). packed_by o dash a ask.leaf) (protocol_is (is_dash ask.place) ask.leaf leaf of) ∙ sym (ap (packed_asking o ask) is)) put

-- ---- a path

module _ (path : List ℕ) where
  abbrev read : Result Ask Refusal
  read = readable_as is_packed path

  read_none : ask_of path ≡ None → read ≡ Err refusals.BadPath
  unfolding readable_as
  read_none e = rw e refl

  read_other : (ask : Ask) → ask_of path ≡ Some ask → is_packed ask.leaf ≡ false → read ≡ Err refusals.BadPath
  unfolding readable_as
  read_other ask e b = rw (e, b) refl

  read_packed : (ask : Ask) → ask_of path ≡ Some ask → is_packed ask.leaf ≡ true → read ≡ Ok ask
  unfolding readable_as
  read_packed ask e b = rw (e, b) refl

  module _ (o : Setup) where
    by_read : (r : Result Ask Refusal) → read ≡ r → packed_path o path ≡ packed_ask o r
    unfolding packed_path
    by_read r e = ap (packed_ask o) e

    -- the path isn't in the grammar
    pub path_refused : (r : Refusal) (told : Option (List ℕ)) → (r ≢ NoMemory → ok_or (ask_of path) refusals.BadPath ≡ Err r) → IsPacked o path (Refused r) told told
    path_refused r told h = packed_none (packed_path o path) r told (λ memory store. by_read (Err r) (by_ask (ask_of path) refl (h memory)))
      where
        by_ask : (found : Option Ask) → ask_of path ≡ found → ok_or found refusals.BadPath ≡ Err r → read ≡ Err r
        by_ask None e is = read_none e ∙ cc
        by_ask (Some ask) e is = absurd cc

    -- it is of another kind
    pub other_refused : (ask : Ask) (told : Option (List ℕ)) → ok_or (ask_of path) refusals.BadPath ≡ Ok ask → is_packed ask.leaf ≡ false → IsPacked o path (Refused refusals.BadPath) told told
    other_refused ask told found other =
        packed_none (packed_path o path) refusals.BadPath told (λ memory store. by_read (Err refusals.BadPath) (read_other ask (ok_or_ok (ask_of path) refusals.BadPath ask found) other))

    pub path_packed : (ask : Ask) (end : PackEnd) (told now : Option (List ℕ)) → ok_or (ask_of path) refusals.BadPath ≡ Ok ask → is_packed ask.leaf ≡ true
        → IsPackedAs (packed_asked o ask) end told now → IsPacked o path end told now
    path_packed ask end told now found leaf put =
        subst (λ (due : List ℕ × Option Refusal). IsPackedAs due end told now)
        (sym (by_read (Ok ask) (read_packed ask (ok_or_ok (ask_of path) refusals.BadPath ask found) leaf))) put

  -- a path of a list is read
  pub packed_is_read : (ask : Ask) → ok_or (ask_of path) refusals.BadPath ≡ Ok ask → is_packed ask.leaf ≡ true → IsErr read → ⊥
  packed_is_read ask found leaf err = by read (read_packed ask (ok_or_ok (ask_of path) refusals.BadPath ask found) leaf) err
    where
      by : (r : Result Ask Refusal) → r ≡ Ok ask → IsErr r → ⊥
      by (Ok other) e err = absurd cc
      by (Err d) e err = absurd cc

-- ---- names

-- what was found, where it isn't refused
pub found_or_none : {X Y : Type 0} (view : X → List Y) (x : X) (due : Result (List Y) Refusal) → AnswersUnlessFailed view (Ok x) due → view x ≡ result_unwrap_or due []
found_or_none view x due e = sym (ap (λ r. result_unwrap_or r []) e)

-- and none where it is
pub none_found : {Y : Type 0} (r : Refusal) (due : Result (List Y) Refusal) (none : List Y) → none ≡ [] → due ≡ Err r → none ≡ result_unwrap_or due []
none_found r due none is refused = is ∙ sym (ap (λ r. result_unwrap_or r []) refused)

module _ (o : Setup) (a : Asking) where
  dash_by : (n : ℕ) (ps : List Period) → dash_leaves n ps ≡ Mpd ∷ flat_map (described_leaves ps) (range_with_len 1 n)
  unfolding dash_leaves
  dash_by n ps = refl

  dash_named : (n : ℕ) (ps : List Period) → n ≡ length a.mapping.sequences → ps ≡ result_unwrap_or (periods o a) [] → packed_leaves o a Mpd ≡ Mpd ∷ flat_map (described_leaves ps) (range_with_len 1 n)
  unfolding packed_leaves
  dash_named n ps few found =
      ap (λ (n : ℕ). dash_leaves n (result_unwrap_or (periods o a) [])) (length-range_with_len 1 (length a.mapping.sequences) ∙ sym few)
      ∙ ap (dash_leaves n) (sym found) ∙ dash_by n ps

  pub dash_put : (n : ℕ) (ps given : List Period) (start middle now : List Leaf) → given ≡ ps → n ≡ length a.mapping.sequences → ps ≡ result_unwrap_or (periods o a) [] → start ≡ [] → middle ≡ start ++ Mpd ∷ []
      → now ≡ middle ++ flat_map (described_leaves given) (range_with_len 1 n) → now ≡ packed_leaves o a Mpd
  dash_put n ps given start middle now same few found none mpd put =
      put ∙ ap₂ (λ (front : List Leaf) (ps : List Period). front ++ flat_map (described_leaves ps) (range_with_len 1 n)) (mpd ∙ ap (λ (l : List Leaf). l ++ Mpd ∷ []) none) same
      ∙ sym (dash_named n ps few found)

  -- the names are put as they are due
  pub packed_names : (leaf : Leaf) (dash : Bool) (names given : List Leaf) (end : PackEnd) (told now : Option (List ℕ)) → dash ≡ is_description leaf → names ≡ packed_leaves o a leaf → given ≡ names
      → IsPackedAs (pack dash (leaf_answer o a) given) end told now → IsPackedAs (packed_by o (is_description leaf) a leaf) end told now
  packed_names leaf dash names given end told now protocol named same put =
      subst (λ (due : List ℕ × Option Refusal). IsPackedAs due end told now) (ap₂ (λ (dash : Bool) (leaves : List Leaf). pack dash (leaf_answer o a) leaves) protocol (same ∙ named)) put
