-- How long the boxes of a track are at most.
use Rattle.std.proofs.Common.{◌≡◌, ℕ, ℤ, ◌+◌, ◌*◌, ◌≤◌, Bool, true, false, cond, eqb, List, [], ◌∷◌, ◌++◌, length, Option, Some, None, refl, ap, arith, length-append}
use Rattle.std.specs.Prelude.{codes, flat_map, option_map}
use Rattle.std.proofs.lemmas.Option.{same_Some}
use Rattle.vod_types.specs.declared.tracks.Kind.{Kind}
use Rattle.vod_types.specs.declared.tracks.Kind.TheVariants.{Video, Audio}
use Rattle.vod_bytes.specs.Fields.{be24, be32}
use Rattle.media_model.specs.Boxes.{box, full_box}
use Rattle.media_model.specs.InitSegment.{handler, kind_header, data_information, with_data_reference}
use Rattle.media_model.proofs.Boxes.{length-box}
use Rattle.media_model.proofs.FieldsRead.{length-entries}
use Rattle.vod_gen.specs.declared.spec.TrackSpec.{TrackSpec}
use Rattle.vod_gen.specs.Tables.{description, duration_run, decode_times, offset_run, offset_table, sync_table, where_given, chunk_runs, sample_sizes, chunk_offsets, sample_table}
use Rattle.vod_gen.specs.MovieFile.{media_before, movie_header, track_header, media_header, media_information, track_box, track_boxes, movie_box}

-- ---- each table

described : (t : TrackSpec) → length (description t) ≤ 16 + length t.entry.items
unfolding description
described t = omega (arith, length-box (codes "stsd") (0 ∷ be24 0 ++ (be32 1 ++ t.entry.items)) refl)

timed : (t : TrackSpec) → length (decode_times t) ≤ 16 + 8 * length t.stts.items
unfolding decode_times
timed t =
    let runs : List ℕ = flat_map duration_run t.stts.items in
    omega (arith, length-box (codes "stts") (0 ∷ be24 0 ++ (be32 (length t.stts.items) ++ runs)) refl, length-append (be32 (length t.stts.items)) runs, length-entries 8 duration_run t.stts.items (λ run. refl))

pub offset_room : (runs : List (ℕ × ℤ)) → length (offset_table runs) ≤ 16 + 8 * length runs
unfolding offset_table
offset_room runs =
    let entries : List ℕ = flat_map offset_run runs in
    omega (arith, length-box (codes "ctts") (1 ∷ be24 0 ++ (be32 (length runs) ++ entries)) refl, length-append (be32 (length runs)) entries, length-entries 8 offset_run runs (λ run. refl))

pub sync_room : (numbers : List ℕ) → length (sync_table numbers) ≤ 16 + 4 * length numbers
unfolding sync_table
sync_room numbers =
    let entries : List ℕ = flat_map be32 numbers in
    omega (arith, length-box (codes "stss") (0 ∷ be24 0 ++ (be32 (length numbers) ++ entries)) refl, length-append (be32 (length numbers)) entries, length-entries 4 be32 numbers (λ n. refl))

chunked : (t : TrackSpec) → length (chunk_runs t) ≤ 28
unfolding chunk_runs
chunked t = go (eqb (length t.samples.items) 0)
  where
    go : (b : Bool) → length (full_box (codes "stsc") 0 0 (cond b (be32 0) (be32 1 ++ be32 1 ++ be32 (length t.samples.items) ++ be32 1))) ≤ 28
    go true = omega arith
    go false = omega arith

sized : (t : TrackSpec) → length (sample_sizes t) ≤ 20 + 4 * length t.samples.items
unfolding sample_sizes
sized t =
    let entries : List ℕ = flat_map (λ s. be32 (length s.items)) t.samples.items in
    let count : List ℕ = be32 0 ++ be32 (length t.samples.items) in
    omega (arith, length-box (codes "stsz") (0 ∷ be24 0 ++ (count ++ entries)) refl, length-append count entries, length-entries 4 (λ s. be32 (length s.items)) t.samples.items (λ s. refl))

placed : (place : ℕ) (t : TrackSpec) → length (chunk_offsets place t) ≤ 20
unfolding chunk_offsets
placed place t = go (eqb (length t.samples.items) 0)
  where
    go : (b : Bool) → length (full_box (codes "stco") 0 0 (cond b (be32 0) (be32 1 ++ be32 place))) ≤ 20
    go true = omega arith
    go false = omega arith

pub table_given : {V X : Type 0} (table : X → List ℕ) (view : V → X) (o : Option V) (x : X) → option_map view o ≡ Some x → where_given (λ v. table (view v)) o ≡ table x
table_given table view None x e = absurd cc
table_given table view (Some v) x e = ap table (same_Some (view v) x e)

pub none_given : {V X : Type 0} (table : X → List ℕ) (view : V → X) (o : Option V) → option_map view o ≡ None → where_given (λ v. table (view v)) o ≡ []
none_given table view None e = refl
none_given table view (Some v) e = absurd cc

-- ---- the track

-- the rows of a track's tables are few
pub record IsSmall (t : TrackSpec) : Type 0 where
  pub entry : length t.entry.items ≤ 1000
  pub durations : length t.stts.items ≤ 20000
  pub offsets : length (where_given (λ runs. offset_table runs.items) t.ctts) ≤ 200000
  pub numbers : length (where_given (λ numbers. sync_table numbers.items) t.stss) ≤ 200000
  pub samples : length t.samples.items ≤ 20000

tables : (place : ℕ) (t : TrackSpec) → IsSmall t → length (sample_table place t) ≤ 1000000
unfolding sample_table
tables place t small =
    let one : List ℕ = description t in
    let two : List ℕ = one ++ decode_times t in
    let three : List ℕ = two ++ where_given (λ runs. offset_table runs.items) t.ctts in
    let four : List ℕ = three ++ where_given (λ numbers. sync_table numbers.items) t.stss in
    let five : List ℕ = four ++ chunk_runs t in
    let six : List ℕ = five ++ sample_sizes t in
    omega (
      arith,
      length-box (codes "stbl") (six ++ chunk_offsets place t) refl,
      length-append six (chunk_offsets place t),
      length-append five (sample_sizes t),
      length-append four (chunk_runs t),
      length-append three (where_given (λ numbers. sync_table numbers.items) t.stss),
      length-append two (where_given (λ runs. offset_table runs.items) t.ctts),
      length-append one (decode_times t),
      described t,
      timed t,
      chunked t,
      sized t,
      placed place t,
      small.entry,
      small.durations,
      small.offsets,
      small.numbers,
      small.samples,
    )

kind_headed : (kind : Kind) → length (kind_header kind) ≤ 20
unfolding kind_header
kind_headed Video = omega arith
kind_headed Audio = omega arith

referred : length data_information ≤ 36
unfolding data_information with_data_reference
referred = omega arith

handled : (kind : Kind) → length (handler kind) ≤ 40
unfolding handler
handled Video = omega arith
handled Audio = omega arith

informed : (place : ℕ) (t : TrackSpec) → IsSmall t → length (media_information place t) ≤ 1000100
unfolding media_information
informed place t small =
    let front : List ℕ = kind_header t.kind ++ data_information in
    omega (arith, length-box (codes "minf") (front ++ sample_table place t) refl, length-append front (sample_table place t), length-append (kind_header t.kind) data_information, kind_headed t.kind, referred, tables place t small)

headed : (timescale : ℕ) → length (media_header timescale) ≤ 32
unfolding media_header
headed timescale = omega arith

track_headed : (number : ℕ) (kind : Kind) → length (track_header number kind) ≤ 92
unfolding track_header
track_headed number kind = omega arith

pub track_room : (number place : ℕ) (t : TrackSpec) → IsSmall t → length (track_box number place t) ≤ 1000400
unfolding track_box
track_room number place t small =
    let front : List ℕ = media_header t.timescale ++ handler t.kind in
    let mdia : List ℕ = box (codes "mdia") (front ++ media_information place t) in
    omega (
      arith,
      length-box (codes "trak") (track_header number t.kind ++ mdia) refl,
      length-append (track_header number t.kind) mdia,
      length-box (codes "mdia") (front ++ media_information place t) refl,
      length-append front (media_information place t),
      length-append (media_header t.timescale) (handler t.kind),
      track_headed number t.kind,
      headed t.timescale,
      handled t.kind,
      informed place t small,
    )

movie_headed : (tracks : ℕ) → length (movie_header tracks) ≤ 108
unfolding movie_header
movie_headed tracks = omega arith

pub movie_room : (start : ℕ) (v a : TrackSpec) → IsSmall v → IsSmall a → length (movie_box start (v ∷ a ∷ [])) ≤ 2001000
unfolding movie_box
movie_room start v a sv sa =
    let tracks : List TrackSpec = v ∷ a ∷ [] in
    let first : List ℕ = track_box 1 (start + length (media_before tracks [] v.kind)) v in
    let second : List ℕ = track_box 2 (start + length (media_before tracks (v ∷ []) a.kind)) a in
    let both : length (track_boxes start tracks [] tracks) ≤ 2000800 =
    omega (
      arith,
      length-append first (second ++ []),
      length-append second [],
      track_room 1 (start + length (media_before tracks [] v.kind)) v sv,
      track_room 2 (start + length (media_before tracks (v ∷ []) a.kind)) a sa,
    ) in
    omega (
      arith,
      both,
      movie_headed 2,
      length-box (codes "moov") (movie_header 2 ++ track_boxes start tracks [] tracks) refl,
      length-append (movie_header 2) (track_boxes start tracks [] tracks),
    )
