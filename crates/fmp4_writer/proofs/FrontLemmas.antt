-- The front of a fragment, piece by piece.
use Rattle.std.proofs.Common.{◌≡◌, ℕ, ◌+◌, ◌*◌, List, [], ◌∷◌, ◌++◌, length, codes, refl, sym, ap, ◌∙◌, append_assoc, append-nil, arith}
use Rattle.std.proofs.lemmas.Int.{ints}
use Rattle.vod_types.specs.declared.tracks.Kind.{Kind}
use Rattle.vod_types.specs.declared.tracks.Kind.TheVariants.{Video, Audio}
use Rattle.vod_types.specs.declared.segments.Row.{Row}
use Rattle.vod_types.specs.SegmentRows.{SegmentRows, rows_of}
use Rattle.media_model.specs.InitSegment.{track_number}
use Rattle.vod_bytes.specs.Fields.{be24, be32}
use Rattle.media_model.specs.Boxes.{full_box}
use Rattle.media_model.specs.Fragment.{run_entries, run_entry, track_fragment_header, decode_time, track_run, track_fragment, movie_fragment, movie_fragment_size, data_offset, sizes, segment_type, media_data_header, fragment_front, video_track, audio_track}
use Rattle.media_model.specs.Laws.{IsFragmentTrack}
use Rattle.media_model.proofs.Sizes.{length-run_entries, length-movie_fragment}
use Rattle.fmp4_writer.specs.Front.{run_head, IsRunFrom, StepsFrom, track_fragment_head}

-- what stands in `traf`
abbrev parts : ℕ → ℕ → Row → List Row → List ℕ
parts track data_offset row rows = track_fragment_header track ++ decode_time row.sample.dts ++ track_run data_offset (row ∷ rows)

size_of_parts : (track data_offset : ℕ) (row : Row) (rows : List Row) → 8 + length (parts track data_offset row rows) ≡ 64 + 16 * length (row ∷ rows)
unfolding track_fragment_header decode_time track_run run_entry
size_of_parts track data_offset row rows = omega (arith, length-run_entries rows)

-- what stands in `trun`
abbrev run_parts : ℕ → List Row → List ℕ
run_parts data_offset rows = 1 ∷ be24 0x000F01 ++ (be32 (length rows) ++ be32 data_offset ++ run_entries rows)

size_of_run_parts : (data_offset : ℕ) (rows : List Row) → 8 + length (run_parts data_offset rows) ≡ 20 + 16 * length rows
size_of_run_parts data_offset rows = omega (arith, length-run_entries rows)

-- a run is its head and its entries
track_run-head : (data_offset : ℕ) (rows : List Row) → track_run data_offset rows ≡ run_head (length rows) data_offset ++ run_entries rows
unfolding track_run run_head
track_run-head data_offset rows = ap (λ (n : ℕ). be32 n ++ codes "trun" ++ run_parts data_offset rows) (size_of_run_parts data_offset rows)

-- `traf` of rows is what stands before the entries, and the entries
pub track_fragment-head : (track data_offset : ℕ) (row : Row) (rows : List Row) → track_fragment track data_offset (row ∷ rows)
    ≡ track_fragment_head track row (length (row ∷ rows)) data_offset ++ run_entries (row ∷ rows)
unfolding track_fragment track_fragment_head track_fragment_header decode_time
track_fragment-head track data_offset row rows =
    ap (λ (n : ℕ). be32 n ++ codes "traf" ++ parts track data_offset row rows) (size_of_parts track data_offset row rows)
    ∙ ap (λ (run : List ℕ). be32 (64 + 16 * length (row ∷ rows)) ++ codes "traf" ++ (track_fragment_header track ++ decode_time row.sample.dts ++ run)) (track_run-head data_offset (row ∷ rows))

pub IsRunFrom-track : (row : Row) (rows : List Row) → IsFragmentTrack (row ∷ rows) → IsRunFrom row rows
IsRunFrom-track row rows is = record { from_zero = is.times.0; times = is.times.1; offsets = is.offsets }

-- ---- the loop over entries

-- the decode time isn't above that of the next row
pub IsRunFrom-step : (row next : Row) (rows : List Row) → IsRunFrom row (next ∷ rows) → StepsFrom row (next ∷ [])
IsRunFrom-step row next rows is = (is.from_zero, is.times.0)

pub IsRunFrom-next : (row next : Row) (rows : List Row) → IsRunFrom row (next ∷ rows) → IsRunFrom next rows
IsRunFrom-next row next rows is =
    record { from_zero = omega (arith, ints, is.from_zero, is.times.0); times = is.times.1; offsets = is.offsets.1 }

-- the entries so far, one more before a row that follows, and the others
pub run_entries-more : (first row next : Row) (initial left rest : List Row) (done piece : List ℕ) → run_entries (first ∷ initial) ≡ done ++ run_entries (row ∷ left)
    → left ≡ next ∷ rest → piece ≡ run_entry row (next ∷ []) → run_entries (first ∷ initial) ≡ (done ++ piece) ++ run_entries (next ∷ rest)
unfolding run_entry
run_entries-more first row next initial left rest done piece others follows is =
    others
    ∙ ap (λ (rows : List Row). done ++ run_entries (row ∷ rows)) follows
    ∙ sym (append_assoc done (run_entry row (next ∷ [])) (run_entries (next ∷ rest)))
    ∙ ap (λ (entry : List ℕ). (done ++ entry) ++ run_entries (next ∷ rest)) (sym is)

-- the entries so far, and the last one
pub run_entries-last : (first row : Row) (initial left : List Row) (done piece : List ℕ) → run_entries (first ∷ initial) ≡ done ++ run_entries (row ∷ left)
    → left ≡ [] → piece ≡ run_entry row [] → run_entries (first ∷ initial) ≡ done ++ piece
run_entries-last first row initial left done piece others none is =
    others
    ∙ ap (λ (rows : List Row). done ++ run_entries (row ∷ rows)) none
    ∙ ap (λ (entry : List ℕ). done ++ entry) (append-nil (run_entry row []) ∙ sym is)

-- ---- a track

track_fragment-nil : (track data_offset : ℕ) → track_fragment track data_offset [] ≡ []
unfolding track_fragment
track_fragment-nil track data_offset = refl

-- no rows, no `traf`
pub track_fragment-none : (track data_offset : ℕ) (rows : List Row) → rows ≡ [] → track_fragment track data_offset rows ≡ []
track_fragment-none track data_offset rows none = ap (track_fragment track data_offset) none ∙ track_fragment-nil track data_offset

-- what stands before the entries, where the track's number and the count of rows are told
pub track_fragment_head-is : (kind : Kind) (rows rows' : SegmentRows) (row : Row) (track count data_offset : ℕ) (head : List ℕ) → head ≡ track_fragment_head track row count data_offset
    → track ≡ track_number kind → count ≡ length (rows_of kind rows') → rows' ≡ rows
    → head ≡ track_fragment_head (track_number kind) row (length (rows_of kind rows)) data_offset
track_fragment_head-is kind rows rows' row track count data_offset head is numbered counted same =
    is
    ∙ ap (λ (n : ℕ). track_fragment_head n row count data_offset) numbered
    ∙ ap (λ (n : ℕ). track_fragment_head (track_number kind) row n data_offset) (counted ∙ ap (λ (r : SegmentRows). length (rows_of kind r)) same)

-- `traf` of rows, of which the first and those behind it are given
pub track_fragment-of : (track data_offset : ℕ) (rows : List Row) (row : Row) (rest : List Row) (head : List ℕ) → rows ≡ row ∷ rest
    → head ≡ track_fragment_head track row (length rows) data_offset → track_fragment track data_offset rows ≡ head ++ run_entries (row ∷ rest)
track_fragment-of track data_offset rows row rest head are is =
    ap (track_fragment track data_offset) are
    ∙ track_fragment-head track data_offset row rest
    ∙ ap (λ (count : ℕ). track_fragment_head track row count data_offset ++ run_entries (row ∷ rest)) (ap length (sym are))
    ∙ ap (λ (front : List ℕ). front ++ run_entries (row ∷ rest)) (sym is)

-- ---- the whole front

-- what stands in `moof`
abbrev movie_parts : ℕ → ℕ → ℕ → List Row → List Row → List ℕ
movie_parts number first second video audio = full_box (codes "mfhd") 0 0 (be32 number) ++ track_fragment video_track first video ++ track_fragment audio_track second audio

size_of_movie_parts : (number : ℕ) (video audio : List Row)
    → 8 + length (movie_parts number (data_offset video audio 0) (data_offset video audio (sizes video)) video audio) ≡ movie_fragment_size (length video) (length audio)
unfolding movie_fragment
size_of_movie_parts number video audio = omega (arith, length-movie_fragment number video audio)

-- the front in four pieces
fragment_front-four : (number : ℕ) (video audio : List Row) → fragment_front number video audio
    ≡ (segment_type ++ be32 (movie_fragment_size (length video) (length audio)) ++ codes "moof" ++ full_box (codes "mfhd") 0 0 (be32 number))
    ++ (track_fragment video_track (data_offset video audio 0) video
    ++ (track_fragment audio_track (data_offset video audio (sizes video)) audio ++ media_data_header (sizes video + sizes audio)))
unfolding fragment_front movie_fragment segment_type
fragment_front-four number video audio =
    ap (λ (n : ℕ). segment_type ++ (be32 n ++ codes "moof" ++ movie_parts number (data_offset video audio 0) (data_offset video audio (sizes video)) video audio) ++ media_data_header (sizes video + sizes audio)) (size_of_movie_parts number video audio)
    ∙ ap (λ (tracks : List ℕ). segment_type ++ be32 (movie_fragment_size (length video) (length audio)) ++ codes "moof" ++ full_box (codes "mfhd") 0 0 (be32 number) ++ tracks)
    (append_assoc (track_fragment video_track (data_offset video audio 0) video) (track_fragment audio_track (data_offset video audio (sizes video)) audio) (media_data_header (sizes video + sizes audio)))

-- the front is the four pieces that are written
pub fragment_front-pieces : (number size first second bytes : ℕ) (rows first_rows second_rows : SegmentRows) (head last : List ℕ)
    → head ≡ segment_type ++ be32 size ++ codes "moof" ++ full_box (codes "mfhd") 0 0 (be32 number)
    → size ≡ movie_fragment_size (length rows.video) (length rows.audio) → first ≡ size + 8 → second ≡ size + 8 + sizes rows.video
    → bytes ≡ sizes rows.video + sizes rows.audio → last ≡ media_data_header bytes → first_rows ≡ rows → second_rows ≡ rows
    → fragment_front number rows.video rows.audio
    ≡ head ++ (track_fragment (track_number Video) first (rows_of Video first_rows) ++ (track_fragment (track_number Audio) second (rows_of Audio second_rows) ++ last))
fragment_front-pieces number size first second bytes rows first_rows second_rows head last is sized firsts seconds counted ends same same' =
    let one : data_offset rows.video rows.audio 0 ≡ first = omega (arith, firsts, sized) in
    let two : data_offset rows.video rows.audio (sizes rows.video) ≡ second = omega (arith, seconds, sized) in
    fragment_front-four number rows.video rows.audio
    ∙ ap (λ (n : ℕ). (segment_type ++ be32 n ++ codes "moof" ++ full_box (codes "mfhd") 0 0 (be32 number)) ++ (track_fragment video_track (data_offset rows.video rows.audio 0) rows.video ++ (track_fragment audio_track (data_offset rows.video rows.audio (sizes rows.video)) rows.audio ++ media_data_header (sizes rows.video + sizes rows.audio)))) (sym sized)
    ∙ ap (λ (front : List ℕ). front ++ (track_fragment video_track (data_offset rows.video rows.audio 0) rows.video ++ (track_fragment audio_track (data_offset rows.video rows.audio (sizes rows.video)) rows.audio ++ media_data_header (sizes rows.video + sizes rows.audio)))) (sym is)
    ∙ ap (λ (n : ℕ). head ++ (track_fragment video_track n rows.video ++ (track_fragment audio_track (data_offset rows.video rows.audio (sizes rows.video)) rows.audio ++ media_data_header (sizes rows.video + sizes rows.audio)))) one
    ∙ ap (λ (n : ℕ). head ++ (track_fragment video_track first rows.video ++ (track_fragment audio_track n rows.audio ++ media_data_header (sizes rows.video + sizes rows.audio)))) two
    ∙ ap (λ (n : ℕ). head ++ (track_fragment video_track first rows.video ++ (track_fragment audio_track second rows.audio ++ media_data_header n))) (sym counted)
    ∙ ap (λ (end : List ℕ). head ++ (track_fragment video_track first rows.video ++ (track_fragment audio_track second rows.audio ++ end))) (sym ends)
    ∙ ap (λ (r : SegmentRows). head ++ (track_fragment video_track first r.video ++ (track_fragment audio_track second rows.audio ++ last))) (sym same)
    ∙ ap (λ (r : SegmentRows). head ++ (track_fragment video_track first first_rows.video ++ (track_fragment audio_track second r.audio ++ last))) (sym same')

-- the size of `moof`, told of rows that have stayed as they were
pub movie_size-is : (size : ℕ) (rows rows' : SegmentRows) → size ≡ movie_fragment_size (length rows'.video) (length rows'.audio) → rows' ≡ rows
    → size ≡ movie_fragment_size (length rows.video) (length rows.audio)
movie_size-is size rows rows' is same = is ∙ ap (λ (r : SegmentRows). movie_fragment_size (length r.video) (length r.audio)) same
