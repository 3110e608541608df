-- The playlist of a film of any number has rows.
use Rattle.std.proofs.Common.{◌≡◌, ℕ, ◌+◌, ◌%◌, ◌<◌, ◌≤◌, true, false, ltb, List, ◌++◌, length, map, None, Ok, refl, sym, ap, subst, ◌∙◌, arith, length-append}
use Rattle.std.specs.Prelude.{◌-◌, codes, decimal, max}
use Rattle.std.specs.Str.{is_utf8, chars}
use Rattle.std.specs.Char.{encode_utf8}
use Rattle.std.proofs.lemmas.Bool.{le-ltb}
use Rattle.std.proofs.lemmas.Fmt.{length-decimal-le}
use Rattle.percent_encoding.specs.Percent.{percent_decode}
use Rattle.vod_types.specs.declared.paths.Ask.{Ask}
use Rattle.vod_types.specs.declared.paths.Leaf.TheVariants.{Index}
use Rattle.vod_types.specs.declared.paths.Place.TheVariants.{MappedHls}
use Rattle.vod_types.specs.declared.paths.Target.TheVariants.{One}
use Rattle.vod_types.specs.Files.{file_name, is_file_name}
use Rattle.vod_types.specs.Numbers.{number_up_to, tagged_number}
use Rattle.vod_types.specs.Tracks.{track_list, track_name, track_number}
use Rattle.clip_model.specs.declared.Piece.{Piece}
use Rattle.clip_model.specs.Timeline.{Timeline}
use Rattle.clip_model.specs.Walk.{mapping_of}
use Rattle.clip_model.proofs.MappingLemmas.{each_weaker}
use Rattle.segment_model.specs.Listing.{ListedSegment}
use Rattle.list_model.specs.Names.{leaf_of}
use Rattle.list_model.specs.Path.{ask_of, components_of, context_of, target_of, with_parameter}
use Rattle.origin_model.specs.Answers.{is_index, path_rows, readable_as}
use Rattle.origin_model.specs.Lists.{listed_segments}
use Rattle.origin_model.specs.Loaded.{CheckedPiece, checked}
use Rattle.origin_model.specs.Requests.{Setup, Asking, asking_of, cutting, mapping_file}
use Rattle.vod_source.specs.Stored.{file_named}
use Rattle.vod_gen.specs.declared.spec.MovieSpec.{MovieSpec}
use Rattle.vod_gen.specs.MovieFile.{movie_file}
use Rattle.vod_gen.specs.Numbered.{audio_track, video_track, lists_of, numbered_mapping, numbered_tracks}
use Rattle.rehearsal_laws.specs.Films.{playlist_path, rehearsal_files, rehearsal_setup}
use Rattle.rehearsal_laws.specs.Listed.{EveryNumberIsListed}
use Rattle.rehearsal_laws.proofs.Checked.{both_tracks, piece_checked, two_of}
use Rattle.rehearsal_laws.proofs.MappingText.{between, mapping_is, mapping_text, two_clip_mapping}
use Rattle.rehearsal_laws.proofs.Parts.{IsOfMovie, all_of_movie, first_part, second_part, found_timeline, timeline_found, whole}
use Rattle.rehearsal_laws.proofs.Planned.{rows_planned}

-- ---- the path

abbrev asked : Ask
asked = record { place = MappedHls; target = One (codes "m.json"); window = whole; tracks = None; leaf = Index 1 both_tracks }

path_is : readable_as is_index playlist_path ≡ Ok asked
unfolding readable_as ask_of components_of context_of with_parameter target_of file_name is_file_name leaf_of number_up_to tagged_number track_number track_name track_list percent_decode is_utf8 chars encode_utf8
path_is = refl

-- ---- the mapping

pub text_of : (n : ℕ) → numbered_mapping n ≡ mapping_text (80000 + n % 80000) (50000 + n % 100000) (n % 50000)
unfolding numbered_mapping
text_of n = refl

text_short : (a b f : ℕ) → a < 1000000 → b < 1000000 → f < 1000000 → length (mapping_text a b f) ≤ 1000
text_short a b f ha hb hf =
    let s1 : List ℕ = codes "{\"durations\":[" in
    let s2 : List ℕ = s1 ++ decimal a in
    let s3 : List ℕ = s2 ++ codes "," in
    let s4 : List ℕ = s3 ++ decimal b in
    let s5 : List ℕ = s4 ++ between in
    let s6 : List ℕ = s5 ++ decimal f in
    omega (
      arith,
      length-append s1 (decimal a),
      length-append s2 (codes ","),
      length-append s3 (decimal b),
      length-append s4 between,
      length-append s5 (decimal f),
      length-append s6 (codes "}]}]}"),
      length-decimal-le 6 a (omega arith) (omega arith) (omega arith),
      length-decimal-le 6 b (omega arith) (omega arith) (omega arith),
      length-decimal-le 6 f (omega arith) (omega arith) (omega arith),
    )

module _ (n : ℕ) (file : List ℕ) where
  abbrev length_one : ℕ
  length_one = 80000 + n % 80000

  abbrev length_two : ℕ
  length_two = 50000 + n % 100000

  abbrev begins : ℕ
  begins = n % 50000

  file_read : mapping_file (rehearsal_files n file) (codes "/r/m.json") ≡ Ok (two_clip_mapping length_one length_two begins)
  unfolding mapping_file file_named
  file_read =
      let short : ltb 1048576 (length (numbered_mapping n)) ≡ false =
      le-ltb _ _ (omega (arith, ap length (text_of n), text_short length_one length_two begins (omega arith) (omega arith) (omega arith))) in
      rw short (ap mapping_of (text_of n) ∙ mapping_is length_one length_two begins (omega arith) (omega arith) (omega arith) (omega arith) (omega arith))

  abbrev asking : Asking
  asking = record { mapping = two_clip_mapping length_one length_two begins; window = whole; tracks = None }

  asking_is : asking_of (rehearsal_setup (rehearsal_files n file)) asked ≡ Ok asking
  unfolding asking_of
  asking_is = rw file_read refl

-- ---- the rows

module _ (n : ℕ) (spec : MovieSpec) (are : map lists_of spec.tracks.items ≡ numbered_tracks n) (file : List ℕ) (is : file ≡ movie_file spec) where
  abbrev setup : Setup
  setup = rehearsal_setup (rehearsal_files n file)

  abbrev IsPassed : Piece → Type 0
  IsPassed piece = (c : CheckedPiece) × (checked (rehearsal_files n file) true both_tracks piece ≡ Ok c)

  passed : (piece : Piece) → IsOfMovie piece → IsPassed piece
  passed piece of = let two = two_of spec.tracks.items (video_track n) (audio_track n) are in piece_checked n spec two.0 two.1 two.2 two.3 two.4 file is piece of.0 of.1

  listed_rows : (rows : List ListedSegment) × (listed_segments setup (asking n file) 1 both_tracks ≡ Ok rows)
  unfolding listed_segments
  listed_rows =
      let a : ℕ = length_one n file in
      let b : ℕ = length_two n file in
      let f : ℕ = begins n file in
      let some-a : 0 < a = omega arith in
      let some-b : 0 < b = omega arith in
      let t : Timeline = found_timeline a b f some-a some-b in
      let rows = rows_planned (cutting setup (asking n file)) refl both_tracks t.pieces (first_part a b f some-a some-b) (second_part a b f some-a some-b) ((0 + a) - max 0 0)
      (((0 + a) + b) - max (0 + a) 0) refl refl (omega arith) (omega arith) (each_weaker IsOfMovie IsPassed t.pieces passed (all_of_movie a b f some-a some-b)) in
      (rows.0, rw (timeline_found a b f some-a some-b) rows.1)

  rows_listed : (rows : List ListedSegment) × (path_rows setup playlist_path ≡ Ok rows)
  unfolding path_rows
  rows_listed = (listed_rows.0, rw (path_is, asking_is n file) listed_rows.1)

pub every_number_is_listed : EveryNumberIsListed
every_number_is_listed n files film =
    let rows = rows_listed n film.of.0 film.of.1 film.movie film.of.2 in
    (rows.0, subst (λ files. path_rows (rehearsal_setup files) playlist_path ≡ Ok rows.0) (sym film.are) rows.1)
