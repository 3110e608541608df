-- The way over the top boxes of a stored file.
use Rattle.std.proofs.Common.{◌≡◌, ℕ, suc, ◌+◌, ◌-◌, ◌<◌, Bool, true, false, cond, eqb, ltb, leb, List, [], ◌++◌, length, drop, bytes_eq, codes, Option, Some, None, IfSome, Result, Ok, Err, refl, sym, ap, ◌∙◌, subst, arith, length-drop, append_assoc, append-nil, drop-drop}
use Rattle.std.proofs.lemmas.List.{map-append}
use Rattle.std.proofs.lemmas.Bool.{le-leb, ne_eqb}
use Rattle.mp4_model.specs.declared.BoxHead.{BoxHead}
use Rattle.mp4_model.specs.Boxes.{header}
use Rattle.mp4_model.specs.Movie.{FileFault, moov_among, header_reads, place_reads}
use Rattle.mp4_model.specs.Movie as movie
use Rattle.mp4_model.proofs.BoxesLemmas.{header_no_room, size_at_least_eight, size_within}
use Rattle.mp4_model.proofs.MovieWalk.{moov_among-none, moov_among-step, moov_among-end, header_reads-none, header_reads-step, header_reads-end}
use Rattle.vod_source.specs.Ranges.{of_file}
use Rattle.vod_source.specs.Stored.{Files, Read, bytes_of}
use Rattle.vod_source.specs.Told.{told_with, GrewByPrefix}
use Rattle.vod_source.proofs.ToldLemmas.{told_with-more, GrewByPrefix-after, GrewByPrefix-more}
use Rattle.mp4_source.specs.declared.seek.SeekFault.{SeekFault}
use Rattle.mp4_source.specs.declared.seek.SeekFault.TheVariants.{StoreFailed, BadBox, NoMovie, MovieTooLong}
use Rattle.mp4_source.specs.declared.seek.TopBox.{TopBox}
use Rattle.mp4_source.specs.declared.seek.TopBox.TheVariants.{Moov, Other}
use Rattle.mp4_source.specs.Sought.{box_reads, top_box_of, GainsHeaders, IsStep, IsWay, IsSought}

-- ---- one box

module _ (at left : ℕ) (rest : List ℕ) (size : length rest ≡ left) where
  -- nothing is left
  pub IsStep-end : left ≡ 0 → IsStep at left rest (Err NoMovie)
  IsStep-end none n =
      let empty : length rest ≡ 0 = size ∙ none in
      let no_box = header_no_room rest (length rest) (omega arith) in
      (moov_among-end n at rest no_box ∙ rw empty refl, header_reads-end n at rest no_box ∙ rw (empty, none) refl)

  -- no box begins
  pub IsStep-bad : 0 < left → header rest left ≡ None → IsStep at left rest (Err (BadBox at))
  IsStep-bad some e n =
      let no_box : header rest (length rest) ≡ None = ap (λ (k : ℕ). header rest k) size ∙ e in
      let not_empty : eqb (length rest) 0 ≡ false = ne_eqb (length rest) 0 (λ none. omega arith) in
      (moov_among-end n at rest no_box ∙ rw not_empty refl, header_reads-end n at rest no_box ∙ rw size refl)

  -- a box begins
  pub IsStep-some : (h : BoxHead) → header rest left ≡ Some h → IsStep at left rest (top_box_of h)
  IsStep-some h e = go (bytes_eq h.kind (codes "moov")) (ltb 33554432 h.size) refl refl
    where
      a_box : header rest (length rest) ≡ Some h
      a_box = ap (λ (k : ℕ). header rest k) size ∙ e

      next_place : ℕ → Result (ℕ × ℕ) FileFault
      next_place n = moov_among n (at + h.size) (drop h.size rest)

      next_reads : ℕ → List (ℕ × ℕ)
      next_reads n = header_reads n (at + h.size) (drop h.size rest)

      place : (n : ℕ) (t u : Bool) → bytes_eq h.kind (codes "moov") ≡ t → ltb 33554432 h.size ≡ u →
          moov_among (suc n) at rest ≡ cond t (cond u (Err (movie.MovieTooLong h.size)) (Ok (at, h.size))) (next_place n)
      place n t u is_moov too_long = moov_among-step n at rest h a_box ∙ rw (is_moov, too_long) refl

      reads : (n : ℕ) (t : Bool) → bytes_eq h.kind (codes "moov") ≡ t → header_reads (suc n) at rest ≡ box_reads at left ++ cond t [] (next_reads n)
      reads n t is_moov =
          let room : leb 8 left ≡ true = le-leb 8 left (omega (arith, size_at_least_eight rest left h e, size_within rest left h e)) in
          header_reads-step n at rest h a_box ∙ rw (is_moov, size, room) refl

      last_read : (n : ℕ) → bytes_eq h.kind (codes "moov") ≡ true → header_reads (suc n) at rest ≡ box_reads at left
      last_read n is_moov = reads n true is_moov ∙ append-nil (box_reads at left)

      go : (t u : Bool) → bytes_eq h.kind (codes "moov") ≡ t → ltb 33554432 h.size ≡ u → IsStep at left rest (cond t (cond u (Err (MovieTooLong h.size)) (Ok (Moov h.size))) (Ok (Other h.size)))
      go true true is_moov too_long = λ n. (place n true true is_moov too_long, last_read n is_moov)
      go true false is_moov too_long = λ n. (place n true false is_moov too_long, last_read n is_moov)
      go false u is_moov too_long = λ n. (place n false u is_moov too_long, reads n false is_moov)

-- ---- where the store tells its files

module _ (name : List ℕ) (at left : ℕ) where
  abbrev AtRest : Option Files → Type 0
  AtRest content = IfSome content (λ files. at + left ≡ length (bytes_of files name))

  abbrev Steps : Option Files → Result TopBox SeekFault → Type 0
  Steps content result = IfSome content (λ files. IsStep at left (drop at (bytes_of files name)) result)

  rest_length : (files : Files) → at + left ≡ length (bytes_of files name) → length (drop at (bytes_of files name)) ≡ left
  rest_length files e = omega (arith, length-drop at (bytes_of files name), e)

  pub told-end : (content : Option Files) → AtRest content → left ≡ 0 → Steps content (Err NoMovie)
  told-end None rest none = tt
  told-end (Some files) rest none = IsStep-end at left (drop at (bytes_of files name)) (rest_length files rest) none

  pub told-bad : (content : Option Files) → AtRest content → 0 < left
      → IfSome content (λ files. None ≡ header (drop at (bytes_of files name)) left) → Steps content (Err (BadBox at))
  told-bad None rest some e = tt
  told-bad (Some files) rest some e = IsStep-bad at left (drop at (bytes_of files name)) (rest_length files rest) some (sym e)

  pub told-some : (content : Option Files) (h : BoxHead) → AtRest content
      → IfSome content (λ files. Some h ≡ header (drop at (bytes_of files name)) left) → Steps content (top_box_of h)
  told-some None h rest e = tt
  told-some (Some files) h rest e = IsStep-some at left (drop at (bytes_of files name)) (rest_length files rest) h (sym e)

-- ---- the way so far

-- what is read at a place comes first among the reads from there on
reads_begin : (n at left : ℕ) (rest : List ℕ) → length rest ≡ left → (more : List (ℕ × ℕ)) × (header_reads (suc n) at rest ≡ box_reads at left ++ more)
reads_begin n at left rest size = go (header rest (length rest)) refl
  where
    room : (h : BoxHead) → header rest (length rest) ≡ Some h → leb 8 left ≡ true
    room h e = le-leb 8 left (omega (arith, size_at_least_eight rest (length rest) h e, size_within rest (length rest) h e))

    go : (o : Option BoxHead) → header rest (length rest) ≡ o → (more : List (ℕ × ℕ)) × (header_reads (suc n) at rest ≡ box_reads at left ++ more)
    go None e = ([], header_reads-end n at rest e ∙ rw size (sym (append-nil (box_reads at left))))
    go (Some h) e =
        (cond (bytes_eq h.kind (codes "moov")) [] (header_reads n (at + h.size) (drop h.size rest)), header_reads-step n at rest h e ∙ rw (size, room h e) refl)

pub of_file-append : (name : List ℕ) (xs ys : List (ℕ × ℕ)) → of_file name (xs ++ ys) ≡ of_file name xs ++ of_file name ys
of_file-append name xs ys = map-append (λ (r : ℕ × ℕ). (name, r.0, r.1)) xs ys

-- the way begins
pub IsWay-start : (file : List ℕ) → IsWay file 64 0 []
unfolding place_reads
IsWay-start file = record { place = refl; reads = refl }

-- no further box is looked at
pub IsWay-none : (file : List ℕ) (at : ℕ) (made : List (ℕ × ℕ)) → IsWay file 0 at made → (moov_among 64 0 file ≡ Err movie.NoMovie) × (place_reads file ≡ made)
IsWay-none file at made way =
    (way.place ∙ moov_among-none at (drop at file), way.reads ∙ ap (λ (rs : List (ℕ × ℕ)). made ++ rs) (header_reads-none at (drop at file)) ∙ append-nil made)

module _ (file : List ℕ) (at left n : ℕ) (made : List (ℕ × ℕ)) (way : IsWay file (suc n) at made) where
  -- one more box
  IsWay-on : (size : ℕ) → IsStep at left (drop at file) (Ok (Other size)) → IsWay file n (at + size) (made ++ box_reads at left)
  IsWay-on size step =
      let rest : drop size (drop at file) ≡ drop (at + size) file = drop-drop size at file in
      record {
        place = way.place ∙ (step n).0 ∙ ap (λ (bytes : List ℕ). moov_among n (at + size) bytes) rest;
        reads = way.reads ∙ ap (λ (rs : List (ℕ × ℕ)). made ++ rs) ((step n).1 ∙ ap (λ (bytes : List ℕ). box_reads at left ++ header_reads n (at + size) bytes) rest) ∙ sym (append_assoc made (box_reads at left) (header_reads n (at + size) (drop (at + size) file)));
      }

  -- the last box
  IsSought-moov : (size : ℕ) → IsStep at left (drop at file) (Ok (Moov size)) → IsSought file (Ok (at, size))
  IsSought-moov size step = way.place ∙ (step n).0

  IsSought-err : (fault : SeekFault) → IsStep at left (drop at file) (Err fault) → IsSought file (Err fault)
  IsSought-err StoreFailed step = tt
  IsSought-err (BadBox place) step = way.place ∙ (step n).0
  IsSought-err NoMovie step = way.place ∙ (step n).0
  IsSought-err (MovieTooLong size) step = way.place ∙ (step n).0

  -- and its read
  last_reads : header_reads (suc n) at (drop at file) ≡ box_reads at left → made ++ box_reads at left ≡ place_reads file
  last_reads e = sym (way.reads ∙ ap (λ (rs : List (ℕ × ℕ)). made ++ rs) e)

  module _ (name : List ℕ) (before middle now : Option (List Read)) (logged : middle ≡ told_with before (of_file name made)) where
    gained : header_reads (suc n) at (drop at file) ≡ box_reads at left → now ≡ told_with middle (of_file name (box_reads at left)) → now ≡ told_with before (of_file name (place_reads file))
    gained e log =
        told_with-more before middle now (of_file name made) (of_file name (box_reads at left)) logged log
        ∙ ap (told_with before) (sym (of_file-append name made (box_reads at left)) ∙ ap (of_file name) (last_reads e))

    gained_some : length (drop at file) ≡ left → GrewByPrefix middle now (of_file name (box_reads at left)) → GrewByPrefix before now (of_file name (place_reads file))
    gained_some size log =
        let begin = reads_begin n at left (drop at file) size in
        let whole : of_file name made ++ (of_file name (box_reads at left) ++ of_file name begin.0) ≡ of_file name (place_reads file) =
        ap (λ (rs : List Read). of_file name made ++ rs) (sym (of_file-append name (box_reads at left) begin.0)) ∙ sym (of_file-append name made (box_reads at left ++ begin.0))
        ∙ ap (of_file name) (sym (way.reads ∙ ap (λ (rs : List (ℕ × ℕ)). made ++ rs) begin.1)) in
        subst (GrewByPrefix before now) whole (GrewByPrefix-after (of_file name made) logged (GrewByPrefix-more (of_file name begin.0) log))

    GainsHeaders-err : (fault : SeekFault) → length (drop at file) ≡ left → IsStep at left (drop at file) (Err fault)
        → GainsHeaders {X = TopBox} middle now name (box_reads at left) (Err fault) → GainsHeaders {X = ℕ × ℕ} before now name (place_reads file) (Err fault)
    GainsHeaders-err StoreFailed size step log = gained_some size log
    GainsHeaders-err (BadBox place) size step log = gained (step n).1 log
    GainsHeaders-err NoMovie size step log = gained (step n).1 log
    GainsHeaders-err (MovieTooLong place) size step log = gained (step n).1 log

-- ---- where the store tells its files

module _ (name : List ℕ) (at file_size : ℕ) (made : List (ℕ × ℕ)) where
  abbrev left : ℕ
  left = file_size - at

  abbrev Sized : Option Files → Type 0
  Sized content = IfSome content (λ files. length (bytes_of files name) ≡ file_size)

  abbrev Way : ℕ → Option Files → Type 0
  Way most content = IfSome content (λ files. IsWay (bytes_of files name) most at made)

  abbrev Step : Option Files → Result TopBox SeekFault → Type 0
  Step content result = IfSome content (λ files. IsStep at left (drop at (bytes_of files name)) result)

  one_less : (file : List ℕ) (looked : ℕ) → looked < 64 → IsWay file (64 - looked) at made → IsWay file (suc (64 - (looked + 1))) at made
  one_less file looked more way = subst (λ (most : ℕ). IsWay file most at made) (let e : 64 - looked ≡ suc (64 - (looked + 1)) = omega arith in e) way

  left_is : (files : Files) → length (bytes_of files name) ≡ file_size → length (drop at (bytes_of files name)) ≡ left
  left_is files e = omega (arith, length-drop at (bytes_of files name), e)

  pub way-on : (content : Option Files) (looked size : ℕ) → looked < 64 → Way (64 - looked) content → Step content (Ok (Other size))
      → IfSome content (λ files. IsWay (bytes_of files name) (64 - (looked + 1)) (at + size) (made ++ box_reads at left))
  way-on None looked size more way step = tt
  way-on (Some files) looked size more way step = IsWay-on (bytes_of files name) at left (64 - (looked + 1)) made (one_less (bytes_of files name) looked more way) size step

  pub sought-moov : (content : Option Files) (looked size : ℕ) → looked < 64 → Way (64 - looked) content → Step content (Ok (Moov size))
      → IfSome content (λ files. IsSought (bytes_of files name) (Ok (at, size)))
  sought-moov None looked size more way step = tt
  sought-moov (Some files) looked size more way step = IsSought-moov (bytes_of files name) at left (64 - (looked + 1)) made (one_less (bytes_of files name) looked more way) size step

  pub sought-err : (content : Option Files) (looked : ℕ) (fault : SeekFault) → looked < 64 → Way (64 - looked) content → Step content (Err fault)
      → IfSome content (λ files. IsSought (bytes_of files name) (Err fault))
  sought-err None looked fault more way step = tt
  sought-err (Some files) looked fault more way step = IsSought-err (bytes_of files name) at left (64 - (looked + 1)) made (one_less (bytes_of files name) looked more way) fault step

  pub sought-none : (content : Option Files) (most : ℕ) → most ≡ 0 → Way most content → IfSome content (λ files. IsSought (bytes_of files name) (Err NoMovie))
  sought-none None most none way = tt
  sought-none (Some files) most none way = (IsWay-none (bytes_of files name) at made (subst (λ (m : ℕ). IsWay (bytes_of files name) m at made) none way)).0

  module _ (before middle now : Option (List Read)) (logged : middle ≡ told_with before (of_file name made)) where
    pub gains-moov : (content : Option Files) (looked size : ℕ) → looked < 64 → Way (64 - looked) content → Step content (Ok (Moov size))
        → now ≡ told_with middle (of_file name (box_reads at left)) → IfSome content (λ files. now ≡ told_with before (of_file name (place_reads (bytes_of files name))))
    gains-moov None looked size more way step log = tt
    gains-moov (Some files) looked size more way step log =
        gained (bytes_of files name) at left (64 - (looked + 1)) made (one_less (bytes_of files name) looked more way) name before middle now logged (step (64 - (looked + 1))).1 log

    pub gains-err : (content : Option Files) (looked : ℕ) (fault : SeekFault) → looked < 64 → Sized content → Way (64 - looked) content → Step content (Err fault)
        → GainsHeaders {X = TopBox} middle now name (box_reads at left) (Err fault)
        → IfSome content (λ files. GainsHeaders {X = ℕ × ℕ} before now name (place_reads (bytes_of files name)) (Err fault))
    gains-err None looked fault more sized way step log = tt
    gains-err (Some files) looked fault more sized way step log =
        GainsHeaders-err (bytes_of files name) at left (64 - (looked + 1)) made (one_less (bytes_of files name) looked more way) name before middle now logged fault (left_is files sized) step log

    pub gains-none : (content : Option Files) (most : ℕ) → most ≡ 0 → Way most content → now ≡ middle → IfSome content (λ files. now ≡ told_with before (of_file name (place_reads (bytes_of files name))))
    gains-none None most none way same = tt
    gains-none (Some files) most none way same =
        same ∙ logged ∙ ap (λ (rs : List (ℕ × ℕ)). told_with before (of_file name rs)) (sym (IsWay-none (bytes_of files name) at made (subst (λ (m : ℕ). IsWay (bytes_of files name) m at made) none way)).1)

pub told_start : (content : Option Files) (name : List ℕ) → IfSome content (λ files. IsWay (bytes_of files name) 64 0 [])
told_start None name = tt
told_start (Some files) name = IsWay-start (bytes_of files name)
