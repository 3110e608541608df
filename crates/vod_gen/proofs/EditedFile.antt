-- What an edit changes in the boxes of a movie, and what stays.
use Rattle.std.proofs.Common.{◌≡◌, ℕ, ◌+◌, ◌-◌, ◌*◌, ◌^◌, ◌<◌, ◌≤◌, ℤ, Bool, true, false, cond, eqb, List, [], ◌∷◌, ◌++◌, length, filter, take, drop, refl, sym, ap, subst, ◌∙◌, arith, length-append, length-drop, append_assoc, append-nil, take_at, drop_at}
use Rattle.std.specs.Prelude.{codes, bytes_eq}
use Rattle.std.proofs.lemmas.Bool.Decides.{nat_tests}
use Rattle.vod_types.specs.declared.tracks.Kind.{Kind}
use Rattle.vod_types.specs.declared.tracks.Kind.TheVariants.{Video, Audio}
use Rattle.vod_types.specs.Tracks.{same_kind}
use Rattle.vod_bytes.specs.Fields.{be32, zeros}
use Rattle.media_model.specs.Boxes.{box, full_box}
use Rattle.media_model.specs.InitSegment.{handler, handler_type, kind_header, data_information}
use Rattle.media_model.proofs.Boxes.{length-box}
use Rattle.vod_gen.specs.declared.spec.TrackSpec.{TrackSpec}
use Rattle.vod_gen.specs.declared.spec.MovieSpec.{MovieSpec}
use Rattle.vod_gen.specs.Tables.{description, decode_times, offset_table, sync_table, where_given, chunk_runs, sample_sizes, chunk_offsets, sample_table}
use Rattle.vod_gen.specs.MovieFile.{media, movie_header, track_header, media_header, media_information, track_box, track_boxes, file_type, movie_box, media_start, movie_file}
use Rattle.vod_gen.specs.BuiltTracks.{count_of}
use Rattle.vod_gen.specs.Edited.{edit_box, edits_if, track_box_with, edited_tracks, edited_movie_box, edited_file, HasOne}
use Rattle.vod_gen.specs.EditSteps.{chunk_end, AreTracks}
use Rattle.vod_gen.proofs.MovieRead.{place_of, trak_payload, trak-spelled}
use Rattle.vod_gen.proofs.FileRoom.{length-file, chunk_within}

-- ---- the place of a chunk stands at the end of its `trak`

-- bytes that end with `stco`, wherever the chunk stands
record Ends (empty : Bool) (bytes : ℕ → List ℕ) : Type 0 where
  pub front : List ℕ
  pub is : (place : ℕ) → bytes place ≡ front ++ chunk_end empty place

length-chunk_end : (empty : Bool) (place : ℕ) → length (chunk_end empty place) ≡ 8
length-chunk_end true place = refl
length-chunk_end false place = refl

behind_others : {empty : Bool} {bytes : ℕ → List ℕ} → (others : List ℕ) → Ends empty bytes → Ends empty (λ p. others ++ bytes p)
behind_others {empty} {bytes} others e =
    record { front = others ++ e.front; is = λ p. ap (λ (l : List ℕ). others ++ l) (e.is p) ∙ sym (append_assoc others e.front (chunk_end empty p)) }

in_box : {empty : Bool} {bytes : ℕ → List ℕ} → (kind : List ℕ) → Ends empty bytes → Ends empty (λ p. box kind (bytes p))
in_box {empty} {bytes} kind e =
    let size : (p : ℕ) → length (bytes p) ≡ length e.front + 8 =
    λ p. ap length (e.is p) ∙ length-append e.front (chunk_end empty p) ∙ ap (λ (n : ℕ). length e.front + n) (length-chunk_end empty p) in
    record {
      front = (be32 (8 + (length e.front + 8)) ++ kind) ++ e.front;
      is = λ p. ap (λ (n : ℕ). (be32 (8 + n) ++ kind) ++ bytes p) (size p) ∙ ap (λ (l : List ℕ). (be32 (8 + (length e.front + 8)) ++ kind) ++ l) (e.is p)
          ∙ sym (append_assoc (be32 (8 + (length e.front + 8)) ++ kind) e.front (chunk_end empty p));
    }

abbrev pub no_samples : TrackSpec → Bool
no_samples t = eqb (length t.samples.items) 0

stco_ends : (t : TrackSpec) → Ends (no_samples t) (λ p. chunk_offsets p t)
unfolding chunk_offsets
stco_ends t = go (no_samples t)
  where
    go : (b : Bool) → Ends b (λ p. full_box (codes "stco") 0 0 (cond b (be32 0) (be32 1 ++ be32 p)))
    go true = record { front = be32 16 ++ codes "stco"; is = λ p. refl }
    go false = record { front = be32 20 ++ codes "stco" ++ be32 0; is = λ p. refl }

stbl_ends : (t : TrackSpec) → Ends (no_samples t) (λ p. sample_table p t)
unfolding sample_table
stbl_ends t =
    in_box (codes "stbl") (behind_others (description t ++ decode_times t ++ where_given (λ runs. offset_table runs.items) t.ctts
    ++ where_given (λ numbers. sync_table numbers.items) t.stss ++ chunk_runs t ++ sample_sizes t) (stco_ends t))

minf_ends : (t : TrackSpec) → Ends (no_samples t) (λ p. media_information p t)
unfolding media_information
minf_ends t = in_box (codes "minf") (behind_others (kind_header t.kind ++ data_information) (stbl_ends t))

-- what stands in `trak` before an edit
abbrev inside : ℕ → TrackSpec → ℕ → List ℕ
inside number t p = track_header number t.kind ++ box (codes "mdia") (media_header t.timescale ++ handler t.kind ++ media_information p t)

inside_ends : (number : ℕ) (t : TrackSpec) → Ends (no_samples t) (inside number t)
inside_ends number t = behind_others (track_header number t.kind) (in_box (codes "mdia") (behind_others (media_header t.timescale ++ handler t.kind) (minf_ends t)))

-- ---- what is read of a `trak`

handler_in : (kind : Kind) (more : List ℕ) → take 4 (((handler_type kind ++ zeros 12) ++ zeros 1) ++ more) ≡ handler_type kind
handler_in Video more = refl
handler_in Audio more = refl

pub handler_read : (number place : ℕ) (t : TrackSpec) → take 4 (drop 156 (track_box number place t)) ≡ handler_type t.kind
unfolding track_box track_header media_header handler
handler_read number place t = handler_in t.kind (media_information place t)

pub same_handler : (a b : Kind) → bytes_eq (handler_type a) (handler_type b) ≡ same_kind a b
same_handler Video Video = refl
same_handler Video Audio = refl
same_handler Audio Video = refl
same_handler Audio Audio = refl

-- ---- a `trak` with an edit

-- a `trak` in front of its chunk's place, and what becomes of it with boxes at its end
record TrackParts (number : ℕ) (t : TrackSpec) : Type 0 where
  pub front : List ℕ
  pub before : (p : ℕ) → track_box number p t ≡ (be32 (16 + length front) ++ (codes "trak" ++ front)) ++ chunk_end (no_samples t) p
  pub after : (p : ℕ) (boxes : List ℕ) → track_box_with number p t boxes ≡ be32 ((16 + length front) + length boxes) ++ (((codes "trak" ++ front) ++ chunk_end (no_samples t) p) ++ boxes)

track_parts : (number : ℕ) (t : TrackSpec) → TrackParts number t
unfolding track_box track_box_with
track_parts number t =
    let e = inside_ends number t in
    let tail : ℕ → List ℕ = chunk_end (no_samples t) in
    let size : (p : ℕ) → length (e.front ++ tail p) ≡ length e.front + 8 = λ p. length-append e.front (tail p) ∙ ap (λ (n : ℕ). length e.front + n) (length-chunk_end (no_samples t) p) in
    record {
      front = e.front;
      before = λ p.
          let all : 8 + length (e.front ++ tail p) ≡ 16 + length e.front = omega (arith, size p) in
          ap (box (codes "trak")) (e.is p) ∙ ap (λ (n : ℕ). (be32 n ++ codes "trak") ++ (e.front ++ tail p)) all;
      after = λ p boxes.
          let all : 8 + length ((e.front ++ tail p) ++ boxes) ≡ (16 + length e.front) + length boxes = omega (arith, size p, length-append (e.front ++ tail p) boxes) in
          ap (λ (l : List ℕ). box (codes "trak") (l ++ boxes)) (e.is p) ∙ ap (λ (n : ℕ). (be32 n ++ codes "trak") ++ ((e.front ++ tail p) ++ boxes)) all;
    }

regroup : (buf a b c d : List ℕ) → (((buf ++ a) ++ b) ++ c) ++ d ≡ buf ++ (a ++ ((b ++ c) ++ d))
regroup buf a b c d = simp append_assoc

-- what stands in a `trak` in front of its chunk's place, and from it on
pub record Cut (number place : ℕ) (t : TrackSpec) (track : List ℕ) : Type 0 where
  pub back : drop (length track - 8) track ≡ chunk_end (no_samples t) place
  pub moved : (by : ℕ) (buf boxes : List ℕ) →
      (((buf ++ be32 (length track + length boxes)) ++ drop 4 (take (length track - 8) track)) ++ chunk_end (no_samples t) (place + by)) ++ boxes
      ≡ buf ++ track_box_with number (place + by) t boxes

pub track_cut : (number place : ℕ) (t : TrackSpec) (track : List ℕ) → track ≡ track_box number place t → Cut number place t track
track_cut number place t track is =
    let parts = track_parts number t in
    let head : List ℕ = be32 (16 + length parts.front) ++ (codes "trak" ++ parts.front) in
    let tail : ℕ → List ℕ = chunk_end (no_samples t) in
    let all : track ≡ head ++ tail place = is ∙ parts.before place in
    let size : length track ≡ 16 + length parts.front = ap length all ∙ omega (arith, length-append head (tail place), length-chunk_end (no_samples t) place) in
    let end : length head ≡ length track - 8 = omega (arith, size) in
    let front : drop 4 (take (length track - 8) track) ≡ codes "trak" ++ parts.front =
    ap (λ (l : List ℕ). drop 4 (take (length track - 8) l)) all ∙ ap (drop 4) (take_at head (tail place) (length track - 8) end) in
    record {
      back = ap (drop (length track - 8)) all ∙ drop_at head (tail place) (length track - 8) end;
      moved = λ by buf boxes.
          ap (λ (n : ℕ). (((buf ++ be32 (n + length boxes)) ++ drop 4 (take (length track - 8) track)) ++ tail (place + by)) ++ boxes) size
          ∙ ap (λ (l : List ℕ). (((buf ++ be32 ((16 + length parts.front) + length boxes)) ++ l) ++ tail (place + by)) ++ boxes) front
          ∙ regroup buf (be32 ((16 + length parts.front) + length boxes)) (codes "trak" ++ parts.front) (tail (place + by)) boxes
          ∙ ap (λ (l : List ℕ). buf ++ l) (sym (parts.after (place + by) boxes));
    }

-- ---- the walk over all of them

-- The boxes of some tracks are left, and what is written, with what is to be written for them, is all of it.
pub record Walked (kind : Kind) (entries : List (ℕ × ℤ)) (start : ℕ) (all : List TrackSpec) (left written whole : List ℕ) : Type 0 where
  pub before : List TrackSpec
  pub after : List TrackSpec
  pub split : all ≡ before ++ after
  pub boxes : left ≡ track_boxes start all before after
  pub short : length left < 2 ^ 32
  pub rest : written ++ edited_tracks kind entries (start + length (edit_box entries)) all before after ≡ whole

-- The next `trak`, and what is left when it is written.
pub record Next (kind : Kind) (entries : List (ℕ × ℤ)) (start : ℕ) (all : List TrackSpec) (left written whole : List ℕ) : Type 0 where
  pub number : ℕ
  pub place : ℕ
  pub track : TrackSpec
  pub size : ℕ
  pub more : List ℕ
  pub read : left ≡ be32 size ++ more
  pub size_fits : size < 2 ^ 32
  pub least : 8 ≤ size
  pub front : take size left ≡ track_box number place track
  pub place_fits : place < 2 ^ 32
  pub rest : Walked kind entries start all (drop size left) (written ++ track_box_with number (place + length (edit_box entries)) track (edits_if kind entries track)) whole

next_of : (kind : Kind) (entries : List (ℕ × ℤ)) (start : ℕ) (all before after : List TrackSpec) (left written whole : List ℕ) → 0 < length left → start + length (media all) < 2 ^ 32 →
    all ≡ before ++ after → left ≡ track_boxes start all before after → length left < 2 ^ 32 → written ++ edited_tracks kind entries (start + length (edit_box entries)) all before after ≡ whole →
    Next kind entries start all left written whole
next_of kind entries start all before [] left written whole some room split boxes short rest = absurd (omega (arith, ap length boxes))
next_of kind entries start all before (t ∷ ts) left written whole some room split boxes short rest =
    let number : ℕ = length before + 1 in
    let place : ℕ = place_of start all before t in
    let by : ℕ = length (edit_box entries) in
    let payload : List ℕ = trak_payload number place t in
    let others : List ℕ = track_boxes start all (before ++ t ∷ []) ts in
    let box_size : length (track_box number place t) ≡ 8 + length payload = ap length (trak-spelled number place t) ∙ length-box (codes "trak") payload refl in
    let sizes : length left ≡ (8 + length payload) + length others = ap length boxes ∙ omega (arith, box_size, length-append (track_box number place t) others) in
    let within = chunk_within all before t ts split in
    let moved : place_of (start + by) all before t ≡ place + by = omega arith in
    let mine : List ℕ = track_box_with number (place + by) t (edits_if kind entries t) in
    let later : List ℕ = edited_tracks kind entries (start + by) all (before ++ t ∷ []) ts in
    record {
      number = number;
      place = place;
      track = t;
      size = 8 + length payload;
      more = (codes "trak" ++ payload) ++ others;
      read = boxes ∙ ap (λ (l : List ℕ). l ++ others) (trak-spelled number place t);
      size_fits = omega (arith, sizes);
      least = omega arith;
      front = ap (take (8 + length payload)) boxes ∙ take_at (track_box number place t) others (8 + length payload) box_size;
      place_fits = omega (arith, within);
      rest = record {
        before = before ++ t ∷ [];
        after = ts;
        split = split ∙ sym (append_assoc before (t ∷ []) ts);
        boxes = ap (drop (8 + length payload)) boxes ∙ drop_at (track_box number place t) others (8 + length payload) box_size;
        short = omega (arith, sizes, ap length (ap (drop (8 + length payload)) boxes ∙ drop_at (track_box number place t) others (8 + length payload) box_size));
        rest = append_assoc written mine later ∙ ap (λ (n : ℕ). written ++ (track_box_with number n t (edits_if kind entries t) ++ later)) (sym moved) ∙ rest;
      };
    }

pub next_track : (kind : Kind) (entries : List (ℕ × ℤ)) (start : ℕ) (all : List TrackSpec) (left written whole : List ℕ) → eqb (length left) 0 ≡ false → start + length (media all) < 2 ^ 32 →
    Walked kind entries start all left written whole → Next kind entries start all left written whole
next_track kind entries start all left written whole some room w =
    let some_left : 0 < length left = grind (arith, nat_tests) in
    next_of kind entries start all w.before w.after left written whole some_left room w.split w.boxes w.short w.rest

-- what is left and written when the next `trak` is written
pub walk_on : (kind : Kind) (entries : List (ℕ × ℤ)) (start : ℕ) (all : List TrackSpec) (left written whole edits left' written' : List ℕ) (next : Next kind entries start all left written whole) →
    edits ≡ edit_box entries → left' ≡ drop next.size left →
    written' ≡ written ++ track_box_with next.number (next.place + length edits) next.track (cond (same_kind next.track.kind kind) edits []) →
    Walked kind entries start all left' written' whole
walk_on kind entries start all left written whole edits left' written' next is back put =
    let put_all : written' ≡ written ++ track_box_with next.number (next.place + length (edit_box entries)) next.track (edits_if kind entries next.track) =
    put ∙ ap (λ (e : List ℕ). written ++ track_box_with next.number (next.place + length e) next.track (cond (same_kind next.track.kind kind) e [])) is in
    subst (λ (l : List ℕ). Walked kind entries start all l written' whole) (sym back)
    (subst (λ (b : List ℕ). Walked kind entries start all (drop next.size left) b whole) (sym put_all) next.rest)

-- when none is left, all is written
pub all_walked : (kind : Kind) (entries : List (ℕ × ℤ)) (start : ℕ) (all : List TrackSpec) (left written whole : List ℕ) → eqb (length left) 0 ≡ true → Walked kind entries start all left written whole → written ≡ whole
all_walked kind entries start all left written whole none w = go w.before w.after w.boxes w.rest
  where
    go : (before after : List TrackSpec) → left ≡ track_boxes start all before after → written ++ edited_tracks kind entries (start + length (edit_box entries)) all before after ≡ whole → written ≡ whole
    go before [] boxes rest = sym (append-nil written) ∙ rest
    go before (t ∷ ts) boxes rest =
        let number : ℕ = length before + 1 in
        let place : ℕ = place_of start all before t in
        let no_byte : length left ≡ 0 = grind (arith, nat_tests) in
        absurd (omega (
          arith,
          ap length boxes,
          ap length (trak-spelled number place t),
          length-box (codes "trak") (trak_payload number place t) refl,
          length-append (track_box number place t) (track_boxes start all (before ++ t ∷ []) ts),
        ))

-- ---- the whole file

-- an edit adds its own length to a `trak`
longer_track : (number p q : ℕ) (t : TrackSpec) (boxes : List ℕ) → length (track_box_with number p t boxes) ≡ length (track_box number q t) + length boxes
longer_track number p q t boxes =
    let parts = track_parts number t in
    let tail : ℕ → List ℕ = chunk_end (no_samples t) in
    let head : List ℕ = codes "trak" ++ parts.front in
    omega (
      arith,
      ap length (parts.after p boxes),
      ap length (parts.before q),
      length-append (head ++ tail p) boxes,
      length-append head (tail p),
      length-append head (tail q),
      length-chunk_end (no_samples t) p,
      length-chunk_end (no_samples t) q,
    )

-- an edit box in each track of the kind adds that often its length
longer_tracks : (kind : Kind) (entries : List (ℕ × ℤ)) (p q : ℕ) (tracks before ts : List TrackSpec) →
    length (edited_tracks kind entries p tracks before ts) ≡ length (track_boxes q tracks before ts) + count_of kind ts * length (edit_box entries)
longer_tracks kind entries p q tracks before [] = omega arith
longer_tracks kind entries p q tracks before (t ∷ ts) =
    let number : ℕ = length before + 1 in
    let here = longer_track number (place_of p tracks before t) (place_of q tracks before t) t (edits_if kind entries t) in
    let later = longer_tracks kind entries p q tracks (before ++ t ∷ []) ts in
    let counted = count (same_kind t.kind kind) (filter (λ r. same_kind r.kind kind) ts) in
    omega (
      arith,
      here,
      later,
      counted,
      length-append (track_box_with number (place_of p tracks before t) t (edits_if kind entries t)) (edited_tracks kind entries p tracks (before ++ t ∷ []) ts),
      length-append (track_box number (place_of q tracks before t) t) (track_boxes q tracks (before ++ t ∷ []) ts),
    )
  where
    count : (is : Bool) (others : List TrackSpec) → length (cond is (edit_box entries) []) + length others * length (edit_box entries) ≡ length (cond is (t ∷ others) others) * length (edit_box entries)
    count true others = grind arith
    count false others = omega arith

-- the parts of a movie that has one track of the kind
pub record MovieParts (spec : MovieSpec) (kind : Kind) (entries : List (ℕ × ℤ)) (movie : List ℕ) : Type 0 where
  pub size : ℕ
  pub more : List ℕ
  pub read : drop 24 movie ≡ be32 size ++ more
  pub size_fits : size < 2 ^ 32
  pub tracks : AreTracks (media_start spec.tracks.items) spec.tracks.items (take (size - 116) (drop 140 movie))
  pub edited :
      let by = length (edit_box entries) in
      (((take 24 movie ++ be32 (size + by)) ++ drop 28 (take 140 movie))
      ++ edited_tracks kind entries (media_start spec.tracks.items + by) spec.tracks.items [] spec.tracks.items)
      ++ drop (size - 116) (drop 140 movie)
      ≡ edited_file spec kind entries

-- how the file begins, and what stands behind `mvhd`
file_parts : (spec : MovieSpec) →
    let tracks : List TrackSpec = spec.tracks.items in
    let start : ℕ = media_start tracks in
    let boxes : List ℕ = track_boxes start tracks [] tracks in
    let mdat : List ℕ = box (codes "mdat") (media tracks) in
    (take 24 (movie_file spec) ≡ file_type)
    × (drop 24 (movie_file spec) ≡ be32 (8 + length (movie_header (length tracks) ++ boxes)) ++ ((codes "moov" ++ movie_header (length tracks)) ++ (boxes ++ mdat)))
    × (drop 28 (take 140 (movie_file spec)) ≡ codes "moov" ++ movie_header (length tracks))
    × (drop 140 (movie_file spec) ≡ boxes ++ mdat)
unfolding movie_file file_type movie_box movie_header
file_parts spec = (refl, refl, refl, refl)

edited_is : (spec : MovieSpec) (kind : Kind) (entries : List (ℕ × ℤ)) →
    let tracks : List TrackSpec = spec.tracks.items in
    let boxes : List ℕ = edited_tracks kind entries (media_start tracks + length (edit_box entries)) tracks [] tracks in
    edited_file spec kind entries ≡ (((file_type ++ be32 (8 + length (movie_header (length tracks) ++ boxes))) ++ (codes "moov" ++ movie_header (length tracks))) ++ boxes) ++ box (codes "mdat") (media tracks)
unfolding edited_file file_type edited_movie_box movie_header
edited_is spec kind entries = refl

length-movie_header : (n : ℕ) → length (movie_header n) ≡ 108
unfolding movie_header
length-movie_header n = refl

pub movie_parts : (spec : MovieSpec) (kind : Kind) (entries : List (ℕ × ℤ)) (movie : List ℕ) → HasOne spec kind movie → MovieParts spec kind entries movie
movie_parts spec kind entries movie one =
    let tracks : List TrackSpec = spec.tracks.items in
    let start : ℕ = media_start tracks in
    let by : ℕ = length (edit_box entries) in
    let head : List ℕ = movie_header (length tracks) in
    let boxes : List ℕ = track_boxes start tracks [] tracks in
    let longer : List ℕ = edited_tracks kind entries (start + by) tracks [] tracks in
    let mdat : List ℕ = box (codes "mdat") (media tracks) in
    let size : ℕ = 8 + length (head ++ boxes) in
    let parts = file_parts spec in
    let size_is : size ≡ 116 + length boxes = omega (arith, length-append head boxes, length-movie_header (length tracks)) in
    let end : length boxes ≡ size - 116 = omega arith in
    let rest : drop 140 movie ≡ boxes ++ mdat = ap (drop 140) one.file ∙ parts.3 in
    let room : size < 2 ^ 32 = omega (arith, one.short, ap length rest, length-drop 140 movie, length-append boxes mdat) in
    let front : take (size - 116) (drop 140 movie) ≡ boxes = ap (take (size - 116)) rest ∙ take_at boxes mdat (size - 116) end in
    let back : drop (size - 116) (drop 140 movie) ≡ mdat = ap (drop (size - 116)) rest ∙ drop_at boxes mdat (size - 116) end in
    let mended : size + by ≡ 8 + length (head ++ longer) =
    omega (arith, longer_tracks kind entries (start + by) start tracks [] tracks, ap (λ (n : ℕ). n * by) one.track, length-append head longer, length-movie_header (length tracks)) in
    record {
      size = size;
      more = (codes "moov" ++ head) ++ (boxes ++ mdat);
      read = ap (drop 24) one.file ∙ parts.1;
      size_fits = room;
      tracks = record {
        boxes = front;
        places = omega (arith, one.short, ap length one.file, length-file spec);
        sizes = omega (arith, ap length front);
      };
      edited =
          ap (λ (l : List ℕ). (((l ++ be32 (size + by)) ++ drop 28 (take 140 movie)) ++ longer) ++ drop (size - 116) (drop 140 movie)) (ap (take 24) one.file ∙ parts.0)
          ∙ ap (λ (n : ℕ). (((file_type ++ be32 n) ++ drop 28 (take 140 movie)) ++ longer) ++ drop (size - 116) (drop 140 movie)) mended
          ∙ ap (λ (l : List ℕ). (((file_type ++ be32 (8 + length (head ++ longer))) ++ l) ++ longer) ++ drop (size - 116) (drop 140 movie)) (ap (λ (l : List ℕ). drop 28 (take 140 l)) one.file ∙ parts.2)
          ∙ ap (λ (l : List ℕ). (((file_type ++ be32 (8 + length (head ++ longer))) ++ (codes "moov" ++ head)) ++ longer) ++ l) back
          ∙ sym (edited_is spec kind entries);
    }
