-- Sample entries, and the sizes of the boxes round them.
use Rattle.std.proofs.Common.{◌≡◌, ℕ, ◌+◌, ◌-◌, ◌≤◌, true, false, List, [], ◌∷◌, ◌++◌, length, take, drop, codes, Option, Some, None, refl, sym, ap, ◌∙◌, length-append, length-take, length-take-le, length-drop, append_assoc, cond, ne_eqb, take_all, subst, arith}
use Rattle.std.specs.Prelude.{IsSomeAnd, Bool, ◌==◌}
use Rattle.std.specs.Bool.{then_some}
use Rattle.std.specs.Option.{ForSome, option_map_or, option_copied}
use Rattle.std.specs.Borrow.{Bor}
use Rattle.vod_types.specs.declared.tracks.Kind.{Kind}
use Rattle.vod_types.specs.declared.tracks.Kind.TheVariants.{Video, Audio}
use Rattle.vod_bytes.specs.Fields.{be16, be24, be32, u32_at}
use Rattle.mp4_model.specs.declared.BoxHead.{BoxHead}
use Rattle.mp4_model.specs.Boxes.{header_size, box_size, header, placed_box, whole_box}
use Rattle.media_model.specs.Boxes.{box, full_box}
use Rattle.media_model.specs.InitSegment.{payload_place, with_data_reference, sample_table, kind_header, data_information, media_header, handler, track_header, track, track_defaults, movie_header, file_type, for_entry, entry_size, init_segment}
use Rattle.fmp4_writer.specs.Entry.{beside, defaults_size, movie}
use Rattle.media_model.specs.InitSegment.{IsEntry}

-- the field at the front, read of the first four bytes alone or of all
pub payload_place-is : (entry : List ℕ) → payload_place entry ≡ header_size entry
unfolding header_size u32_at
payload_place-is [] = refl
payload_place-is (a ∷ []) = refl
payload_place-is (a ∷ b ∷ []) = refl
payload_place-is (a ∷ b ∷ c ∷ []) = refl
payload_place-is (a ∷ b ∷ c ∷ d ∷ entry) = refl

header_size-long : (entry : List ℕ) → u32_at entry 0 ≡ 1 → header_size entry ≡ 16
unfolding header_size
header_size-long entry one = rw one refl

header_size-short : (entry : List ℕ) → (u32_at entry 0 ≡ 1 → ⊥) → header_size entry ≡ 8
unfolding header_size
header_size-short entry other = ap (λ b. cond b 16 8) (ne_eqb (u32_at entry 0) 1 other)

module _ (entry kind : List ℕ) (head size : ℕ) where
  abbrev head_of : BoxHead
  head_of = record { kind = kind; head = head; size = size }

  within-same : (b : Bool) → IsSomeAnd (then_some b (placed_box 0 head_of entry)) (λ b. 8 ≤ length b.body) → head + 8 ≤ length entry
  unfolding placed_box
  within-same false h = absurd h
  within-same true h = omega (arith, h, length-drop head (take size entry), length-take size entry)

  within-fits : (b : Bool) → IsSomeAnd (option_map_or (λ h. then_some (h.size == length entry) (placed_box 0 h entry)) (then_some b head_of) None) (λ b. 8 ≤ length b.body)
      → head + 8 ≤ length entry
  within-fits false h = absurd h
  within-fits true h = within-same (size == length entry) h

-- the payload has room for the data reference
pub payload-within : (entry : List ℕ) → IsEntry entry → header_size entry + 8 ≤ length entry
unfolding whole_box header
payload-within entry is = within-fits entry (take 4 (drop 4 entry)) (header_size entry) (box_size entry (length entry)) _ is.whole

-- where the payload begins, by the field at the front
pub payload_place-long : (entry : List ℕ) (field : ℕ) → field ≡ u32_at entry 0 → field ≡ 1 → payload_place entry ≡ 16
payload_place-long entry field is one = payload_place-is entry ∙ header_size-long entry (sym is ∙ one)

pub payload_place-short : (entry : List ℕ) (field : ℕ) → field ≡ u32_at entry 0 → (field ≡ 1 → ⊥) → payload_place entry ≡ 8
payload_place-short entry field is other = payload_place-is entry ∙ header_size-short entry (λ one. other (is ∙ one))

pub reference-within : (entry : List ℕ) → IsEntry entry → payload_place entry + 8 ≤ length entry
reference-within entry is = rw payload_place-is (payload-within entry is)

length-with_data_reference : (entry : List ℕ) → IsEntry entry → length (with_data_reference entry) ≡ length entry
unfolding with_data_reference
length-with_data_reference entry is =
    omega (arith, payload-within entry is, payload_place-is entry, length-append (take (payload_place entry + 6) entry ++ be16 1) (drop (payload_place entry + 8) entry), length-append (take (payload_place entry + 6) entry) (be16 1), length-take-le (payload_place entry + 6) entry (omega (arith, payload-within entry is, payload_place-is entry)), length-drop (payload_place entry + 8) entry)

-- ---- `stbl`

-- the tables behind `stsd`
abbrev tables : List ℕ
tables = full_box (codes "stts") 0 0 (be32 0) ++ (full_box (codes "stsc") 0 0 (be32 0) ++ (full_box (codes "stsz") 0 0 (be32 0 ++ be32 0) ++ full_box (codes "stco") 0 0 (be32 0)))

-- what stands in `stsd`
abbrev description : List ℕ → List ℕ
description entry = 0 ∷ be24 0 ++ (be32 1 ++ with_data_reference entry)

size_of_description : (entry : List ℕ) → IsEntry entry → 8 + length (description entry) ≡ 16 + length entry
size_of_description entry is = omega (arith, length-with_data_reference entry is)

size_of_tables : (entry : List ℕ) → IsEntry entry → 8 + length (box (codes "stsd") (description entry) ++ tables) ≡ 92 + length entry
size_of_tables entry is = simp length-append (omega (arith, length-with_data_reference entry is))

five : (a b c d e : List ℕ) → a ++ b ++ c ++ d ++ e ≡ a ++ (b ++ (c ++ (d ++ e)))
five a b c d e = simp append_assoc

regrouped : (entry : List ℕ)
    → box (codes "stsd") (description entry) ++ full_box (codes "stts") 0 0 (be32 0) ++ full_box (codes "stsc") 0 0 (be32 0) ++ full_box (codes "stsz") 0 0 (be32 0 ++ be32 0) ++ full_box (codes "stco") 0 0 (be32 0)
    ≡ box (codes "stsd") (description entry) ++ tables
regrouped entry = five (box (codes "stsd") (description entry)) (full_box (codes "stts") 0 0 (be32 0)) (full_box (codes "stsc") 0 0 (be32 0)) (full_box (codes "stsz") 0 0 (be32 0 ++ be32 0)) (full_box (codes "stco") 0 0 (be32 0))

pub sample_table-sized : (entry : List ℕ) → IsEntry entry → sample_table entry
    ≡ be32 (92 + length entry) ++ codes "stbl" ++ (be32 (16 + length entry) ++ codes "stsd" ++ (be32 0 ++ (be32 1 ++ (with_data_reference entry ++ tables))))
unfolding sample_table
sample_table-sized entry is =
    ap (box (codes "stbl")) (regrouped entry)
    ∙ ap (λ (n : ℕ). be32 n ++ codes "stbl" ++ (box (codes "stsd") (description entry) ++ tables)) (size_of_tables entry is)
    ∙ ap (λ (n : ℕ). be32 (92 + length entry) ++ codes "stbl" ++ ((be32 n ++ codes "stsd" ++ description entry) ++ tables)) (size_of_description entry is)

length-sample_table : (entry : List ℕ) → IsEntry entry → length (sample_table entry) ≡ 92 + length entry
unfolding sample_table
length-sample_table entry is = simp length-append (omega (arith, length-with_data_reference entry is))

-- ---- `trak`

-- what stands in `minf`, `mdia` and `trak`
abbrev information : Kind → List ℕ → List ℕ
information kind entry = kind_header kind ++ data_information ++ sample_table entry

abbrev media : Kind → List ℕ → List ℕ
media kind entry = media_header ++ handler kind ++ box (codes "minf") (information kind entry)

abbrev parts : Kind → ℕ → ℕ → List ℕ → List ℕ
parts kind width height entry = track_header kind width height ++ box (codes "mdia") (media kind entry)

size_of_information : (kind : Kind) (entry : List ℕ) → IsEntry entry → 8 + length (information kind entry) ≡ beside kind + length entry - 173
unfolding kind_header data_information
size_of_information Video entry is = omega (arith, length-sample_table entry is)
size_of_information Audio entry is = omega (arith, length-sample_table entry is)

size_of_media : (kind : Kind) (entry : List ℕ) → IsEntry entry → 8 + length (media kind entry) ≡ beside kind + length entry - 100
unfolding kind_header data_information media_header handler
size_of_media Video entry is = omega (arith, length-sample_table entry is)
size_of_media Audio entry is = omega (arith, length-sample_table entry is)

size_of_parts : (kind : Kind) (width height : ℕ) (entry : List ℕ) → IsEntry entry → 8 + length (parts kind width height entry) ≡ beside kind + length entry
unfolding kind_header data_information media_header handler track_header
size_of_parts Video width height entry is = omega (arith, length-sample_table entry is)
size_of_parts Audio width height entry is = omega (arith, length-sample_table entry is)

pub track-sized : (kind : Kind) (width height : ℕ) (entry : List ℕ) (size : ℕ) → IsEntry entry → size ≡ beside kind + length entry → track kind width height entry
    ≡ be32 size ++ codes "trak" ++ (track_header kind width height ++ (be32 (size - 100) ++ codes "mdia"
    ++ (media_header ++ handler kind ++ (be32 (size - 173) ++ codes "minf" ++ information kind entry))))
unfolding track
track-sized kind width height entry size is sized =
    rw sized
    (ap (λ (n : ℕ). be32 n ++ codes "trak" ++ parts kind width height entry) (size_of_parts kind width height entry is)
    ∙ ap (λ (n : ℕ). be32 (beside kind + length entry) ++ codes "trak" ++ (track_header kind width height ++ (be32 n ++ codes "mdia" ++ media kind entry))) (size_of_media kind entry is)
    ∙ ap (λ (n : ℕ). be32 (beside kind + length entry) ++ codes "trak" ++ (track_header kind width height ++ (be32 (beside kind + length entry - 100) ++ codes "mdia" ++ (media_header ++ handler kind ++ (be32 n ++ codes "minf" ++ information kind entry)))))
    (size_of_information kind entry is))

length-track : (kind : Kind) (width height : ℕ) (entry : List ℕ) → IsEntry entry → length (track kind width height entry) ≡ beside kind + length entry
unfolding track
length-track kind width height entry is = omega (arith, size_of_parts kind width height entry is)

-- ---- `moov`

abbrev defaults_of : Option (List ℕ) → Option (List ℕ) → List ℕ
defaults_of video audio = for_entry video (λ entry. track_defaults Video) ++ for_entry audio (λ entry. track_defaults Audio)

size_of_defaults : (video audio : Option (List ℕ)) → 8 + length (defaults_of video audio) ≡ 8 + (defaults_size video + defaults_size audio)
unfolding track_defaults
size_of_defaults None None = refl
size_of_defaults None (Some a) = refl
size_of_defaults (Some v) None = refl
size_of_defaults (Some v) (Some a) = refl

length-given : (kind : Kind) (width height : ℕ) (entry : Option (List ℕ)) → ForSome entry IsEntry → length (for_entry entry (track kind width height)) ≡ entry_size (beside kind) entry
length-given kind width height None is = refl
length-given kind width height (Some entry) is = length-track kind width height entry (is entry refl)

abbrev tracks_of : Option (List ℕ) → ℕ → ℕ → Option (List ℕ) → List ℕ
tracks_of video width height audio = movie_header ++ for_entry video (track Video width height) ++ for_entry audio (track Audio 0 0)

length_of_four : (a b c d : List ℕ) → length (a ++ b ++ c ++ d) ≡ length a + length b + length c + length d
length_of_four a b c d = simp length-append

size_of_movie : (video : Option (List ℕ)) (width height : ℕ) (audio : Option (List ℕ)) → ForSome video IsEntry → ForSome audio IsEntry
    → 8 + length (tracks_of video width height audio ++ box (codes "mvex") (defaults_of video audio))
    ≡ 124 + (entry_size 329 video + entry_size 325 audio) + (defaults_size video + defaults_size audio)
unfolding movie_header
size_of_movie video width height audio v a =
    omega (
      arith,
      length_of_four movie_header (for_entry video (track Video width height)) (for_entry audio (track Audio 0 0)) (box (codes "mvex") (defaults_of video audio)),
      length-given Video width height video v,
      length-given Audio 0 0 audio a,
      size_of_defaults video audio,
    )

pub movie-sized : (video : Option (List ℕ)) (width height : ℕ) (audio : Option (List ℕ)) (tracks defaults : ℕ) → ForSome video IsEntry → ForSome audio IsEntry
    → tracks ≡ entry_size 329 video + entry_size 325 audio → defaults ≡ defaults_size video + defaults_size audio → movie video width height audio
    ≡ be32 (124 + tracks + defaults) ++ codes "moov" ++ (tracks_of video width height audio ++ (be32 (8 + defaults) ++ codes "mvex" ++ defaults_of video audio))
unfolding movie
movie-sized video width height audio tracks defaults v a sized counted =
    rw (sized, counted)
    (ap (λ (n : ℕ). be32 n ++ codes "moov" ++ (tracks_of video width height audio ++ box (codes "mvex") (defaults_of video audio))) (size_of_movie video width height audio v a)
    ∙ ap (λ (n : ℕ). be32 (124 + (entry_size 329 video + entry_size 325 audio) + (defaults_size video + defaults_size audio)) ++ codes "moov" ++ (tracks_of video width height audio ++ (be32 n ++ codes "mvex" ++ defaults_of video audio))) (size_of_defaults video audio))

pub init_segment-is : (video : Option (List ℕ)) (width height : ℕ) (audio : Option (List ℕ)) → init_segment video width height audio ≡ file_type ++ movie video width height audio
unfolding init_segment movie
init_segment-is video width height audio = refl

-- an entry with its data reference, piece by piece
pub with_data_reference-pieces : (old entry : List ℕ) (place : ℕ) → place ≡ payload_place entry
    → ((old ++ take (place + 6) entry) ++ (0 ∷ 1 ∷ [])) ++ take (length entry - (place + 8)) (drop (place + 8) entry) ≡ old ++ with_data_reference entry
unfolding with_data_reference
with_data_reference-pieces old entry place is =
    ap (λ (end : List ℕ). ((old ++ take (place + 6) entry) ++ (0 ∷ 1 ∷ [])) ++ end) (take_all (length entry - (place + 8)) (drop (place + 8) entry) (omega (arith, length-drop (place + 8) entry)))
    ∙ rw is (simp append_assoc)

-- entries by reference, and as they are
pub ForSome-copied : (entry : Option (Bor (List ℕ))) → ForSome entry (λ e. IsEntry e.now) → ForSome (option_copied entry) IsEntry
ForSome-copied None are = λ x is. cc
ForSome-copied (Some e) are = λ x is. let same : e.now ≡ x = cc in subst IsEntry same (are e refl)
