-- Plans over the pieces that they need can be written.
use Rattle.std.proofs.Common.{◌≡◌, ◌≢◌, ℕ, ◌+◌, ◌≤◌, Bool, List, [], ◌∷◌, ◌++◌, length, map, drop, All, Option, Some, None, IfSome, IfOk, IfErr, Result, Ok, Err, sym, ap, ◌∙◌, subst}
use Rattle.std.specs.Prelude.{ok_or, unwrap_or}
use Rattle.std.specs.Result.{result_map_both}
use Rattle.vod_types.specs.declared.refusal.Refusal.{Refusal}
use Rattle.vod_types.specs.declared.refusal.Refusal.TheVariants.{NoFile, NoMemory}
use Rattle.vod_types.specs.declared.segments.Form.{Form}
use Rattle.vod_types.specs.declared.tracks.Asked.{Asked}
use Rattle.vod_types.specs.declared.tracks.Kind.TheVariants.{Video, Audio}
use Rattle.vod_types.specs.Results.{◌>>=◌, each_in_turn, Answers}
use Rattle.vod_types.proofs.StepLemmas.{bind_ok}
use Rattle.mp4_model.specs.declared.MoviePlace.{MoviePlace}
use Rattle.mp4_model.specs.Movie.{Movie, FileFault, movie, movie_place, moov_among, moov_bytes, moov_tracks, result_in_file}
use Rattle.mp4_model.specs.Tracks.{Track}
use Rattle.clip_model.specs.declared.Part.{Part}
use Rattle.clip_model.specs.declared.Piece.{Piece}
use Rattle.clip_model.specs.IsTimeline.{IsTimeline}
use Rattle.clip_model.specs.Timeline.{Timeline}
use Rattle.segment_model.specs.Grid.{PartGrid}
use Rattle.segment_model.specs.Lone.{lone_cell}
use Rattle.segment_model.specs.Timeline.{timeline}
use Rattle.media_model.specs.Fragment.{sizes}
use Rattle.vod_source.specs.Stored.{Files, bytes_of, file_named}
use Rattle.origin_model.specs.Loaded.{CheckedPiece, asked_edit, asked_track, checked, checked_in, loaded, refusal_of_file}
use Rattle.origin_model.specs.Sources.{part_pieces, source_piece}
use Rattle.origin_model.specs.Writable.{IsSoundPiece}
use Rattle.answer_laws.specs.Refusals.{IsPathRefusal}
use Rattle.answer_laws.proofs.Due.{answers_may, due_may}
use Rattle.answer_laws.proofs.Segments.{checked_in_may}
use Rattle.answer_laws.proofs.Steps.{May}
use Rattle.vod_plan.specs.declared.spans.PlanPiece.{PlanPiece}
use Rattle.vod_plan.specs.Needed.{AreFoundOf, AreFoundPieces}
use Rattle.vod_plan.specs.Planned.{Planned, plan_rows, plan_view}
use Rattle.vod_plan.specs.RowFaults.{largest_of, EndsLow}
use Rattle.vod_plan.specs.Tracks as tracks
use Rattle.vod_plan.specs.Wanted.{form_of, wanted_rows}
use Rattle.vod_plan.specs.Writable.{AreOfPart, IsCounted, IsWritableBy, SizesAreTrue}
use Rattle.vod_plan.specs.declared.lone.Wanted.{Wanted}
use Rattle.vod_plan.proofs.WritablePlans.{wanted_may, wanted_named, wanted_writable}
use Rattle.vod_plan.proofs.WritableRows.{writable_by, AreAsLong}

-- ---- what a plan tells of its samples

pub counted_of : (r : Result Planned Refusal) → IfOk r (λ p. p.largest ≡ largest_of ((plan_rows p).video ++ (plan_rows p).audio)) → IfOk r (λ p. p.bytes ≡ sizes (plan_rows p).video + sizes (plan_rows p).audio)
    → IfOk r (λ p. p.bytes ≤ 2130706432) → IfOk r (λ p. All EndsLow (plan_rows p).video) → IfOk r (λ p. All EndsLow (plan_rows p).audio) → IfOk r IsCounted
counted_of (Err e) largest bytes small video audio = tt
counted_of (Ok p) largest bytes small video audio = record { largest = largest; bytes = bytes; small = small; video_ends = video; audio_ends = audio }

pub counted_bytes : (r : Result Planned Refusal) → IfOk r IsCounted → IfOk r (λ p. p.bytes ≡ sizes (plan_rows p).video + sizes (plan_rows p).audio)
counted_bytes (Err e) counted = tt
counted_bytes (Ok p) counted = counted.bytes

pub counted_small : (r : Result Planned Refusal) → IfOk r IsCounted → IfOk r (λ p. p.bytes ≤ 2130706432)
counted_small (Err e) counted = tt
counted_small (Ok p) counted = counted.small

-- ---- why a piece is refused

tracks_may : (edits : Bool) (asked : Asked) (piece : Piece) (m : Movie) → May (tracks.checked_in edits asked piece m)
unfolding tracks.checked_in
tracks_may edits asked piece m = checked_in_may edits asked piece m

pub check_refused : (edits : Bool) (asked : Asked) (piece : Piece) (m : Movie) (e : Refusal) → (e ≢ NoMemory → tracks.checked_in edits asked piece m ≡ Err e) → IsPathRefusal e
check_refused edits asked piece m e answered = due_may (tracks.checked_in edits asked piece m) (tracks_may edits asked piece m) e answered

-- ---- the sizes of files

abbrev place_as : List ℕ → ℕ × ℕ → MoviePlace
place_as file found = record { file_size = length file; at = found.0; size = found.1 }

abbrev movie_as : List ℕ → MoviePlace → List Track → Movie
movie_as file place tracks = record { place = place; moov = moov_bytes file place; tracks = tracks }

-- a loaded file is as long as its movie says
size_of_loaded : (files : Files) (name : List ℕ) (m : Movie) → loaded files name ≡ Ok m → length (bytes_of files name) ≡ m.place.file_size
unfolding loaded movie movie_place
size_of_loaded files name m e = by_file (file_named files name) e
  where
    by_tracks : (file : List ℕ) (found : ℕ × ℕ) (r : Result (List Track) FileFault)
        → result_map_both (λ m. m) (refusal_of_file name) (r >>= λ tracks. Ok (movie_as file (place_as file found) tracks)) ≡ Ok m
        → length file ≡ m.place.file_size
    by_tracks file found (Ok tracks) e = let same : movie_as file (place_as file found) tracks ≡ m = cc in ap (λ (m : Movie). m.place.file_size) same
    by_tracks file found (Err fault) e = absurd cc

    by_place : (file : List ℕ) (r : Result (ℕ × ℕ) FileFault)
        → result_map_both (λ m. m) (refusal_of_file name) ((r >>= λ found. Ok (place_as file found)) >>= λ place. result_in_file place.at (moov_tracks (moov_bytes file place)) >>= λ tracks. Ok (movie_as file place tracks)) ≡ Ok m
        → length file ≡ m.place.file_size
    by_place file (Ok found) e = by_tracks file found (result_in_file found.0 (moov_tracks (moov_bytes file (place_as file found)))) e
    by_place file (Err fault) e = absurd cc

    by_file : (found : Option (List ℕ)) → (ok_or found (NoFile name) >>= λ file. result_map_both (λ m. m) (refusal_of_file name) (movie file)) ≡ Ok m → length (unwrap_or found []) ≡ m.place.file_size
    by_file None e = absurd cc
    by_file (Some file) e = by_place file (moov_among 64 0 file) e

-- what a checked piece says of its file
said_of_file : (edits : Bool) (asked : Asked) (piece : Piece) (m : Movie) (c : CheckedPiece) → checked_in edits asked piece m ≡ Ok c → (c.piece.name ≡ piece.name) × (c.file_size ≡ m.place.file_size)
said_of_file edits asked piece m c e =
    let video = bind_ok (asked_track piece m Video asked.video) _ c e in
    let video_edit = bind_ok (asked_edit edits piece m Video asked.video) _ c video.2 in
    let audio = bind_ok (asked_track piece m Audio asked.audio) _ c video_edit.2 in
    let audio_edit = bind_ok (asked_edit edits piece m Audio asked.audio) _ c audio.2 in
    let made : CheckedPiece = record { piece = piece; file_size = m.place.file_size; video = video.0; audio = audio.0; video_edit = video_edit.0; audio_edit = audio_edit.0 } in
    let same : made ≡ c = (let e = audio_edit.2 in cc) in (sym (ap (λ (c : CheckedPiece). c.piece.name) same), sym (ap (λ (c : CheckedPiece). c.file_size) same))

pub checked_long : (files : Files) (edits : Bool) (asked : Asked) (piece : Piece) (c : CheckedPiece) → checked files edits asked piece ≡ Ok c → length (bytes_of files c.piece.name) ≡ c.file_size
unfolding checked
checked_long files edits asked piece c e =
    let m = bind_ok (loaded files piece.name) _ c e in
    let said = said_of_file edits asked piece m.0 c m.2 in
    ap (λ (name : List ℕ). length (bytes_of files name)) said.0 ∙ size_of_loaded files piece.name m.0 m.1 ∙ sym said.1

-- pieces that were checked in the files of a store are as long as they say
checked_as_long : (files : Files) (edits : Bool) (asked : Asked) (ps : List Piece) (cs : List CheckedPiece) → each_in_turn (checked files edits asked) ps ≡ Ok cs → AreAsLong files cs
checked_as_long files edits asked [] cs e = let none : [] ≡ cs = cc in subst (AreAsLong files) none tt
checked_as_long files edits asked (p ∷ ps) cs e =
    let first = bind_ok (checked files edits asked p) (λ c. each_in_turn (checked files edits asked) ps >>= λ cs. Ok (c ∷ cs)) cs e in
    let rest = bind_ok (each_in_turn (checked files edits asked) ps) (λ cs. Ok (first.0 ∷ cs)) cs first.2 in
    let same : (first.0 ∷ rest.0) ≡ cs = (let e = rest.2 in cc) in
    subst (AreAsLong files) same (checked_long files edits asked p first.0 first.1, checked_as_long files edits asked ps rest.0 rest.1)

-- those that were found are
sizes_found : (files : Files) (cs : List CheckedPiece) (ps : List PlanPiece) → AreFoundOf cs ps → AreAsLong files cs → SizesAreTrue files ps
sizes_found files [] [] are long = tt
sizes_found files [] (p ∷ ps) are long = absurd are
sizes_found files (c ∷ cs) [] are long = absurd are
sizes_found files (c ∷ cs) (p ∷ ps) are long =
    (ap (λ (name : List ℕ). length (bytes_of files name)) are.0.of.name ∙ long.0 ∙ sym are.0.of.size, sizes_found files cs ps are.1 long.1)

-- and then any checked pieces of which they are found
found_long : (files : Files) (cs : List CheckedPiece) (ps : List PlanPiece) → AreFoundOf cs ps → SizesAreTrue files ps → AreAsLong files cs
found_long files [] [] are sizes = tt
found_long files [] (p ∷ ps) are sizes = absurd are
found_long files (c ∷ cs) [] are sizes = absurd are
found_long files (c ∷ cs) (p ∷ ps) are sizes =
    (ap (λ (name : List ℕ). length (bytes_of files name)) (sym are.0.of.name) ∙ sizes.0 ∙ are.0.of.size, found_long files cs ps are.1 sizes.1)

content_long : (content : Option Files) (cs : List CheckedPiece) (ps : List PlanPiece) → AreFoundOf cs ps → IfSome content (λ files. SizesAreTrue files ps) → IfSome content (λ files. AreAsLong files cs)
content_long None cs ps are sizes = tt
content_long (Some files) cs ps are sizes = found_long files cs ps are sizes

pub sizes_looked : (files : Files) (edits : Bool) (asked : Asked) (pieces : List Piece) (ps : List PlanPiece) → (all : List CheckedPiece) × (each_in_turn (checked files edits asked) pieces ≡ Ok all) × AreFoundOf all ps → SizesAreTrue files ps
sizes_looked files edits asked pieces ps found = sizes_found files found.0 ps found.2 (checked_as_long files edits asked pieces found.0 found.1)

-- ---- the plan of a cell

-- the needed pieces are some of a part's
pub found_of_part : (asked : Asked) (t : Timeline) (part : Part) (shown : List Piece) (skipped : ℕ) (ps : List PlanPiece) → IsTimeline t.pieces t.parts → shown ≡ drop skipped (part_pieces t part) → AreFoundPieces asked shown ps
    → AreOfPart asked ps
found_of_part asked t part shown skipped ps h e of = record { timeline = t; part = part; skipped = skipped; kept = h; pieces = subst (λ (shown : List Piece). AreFoundPieces asked shown ps) e of }

module _ (number : ℕ) (wanted : Wanted) (asked : Asked) (g : PartGrid) (k : ℕ) (ps : List PlanPiece) (of : AreOfPart asked ps) where
  abbrev cs : List CheckedPiece
  cs = of.pieces.checked

  abbrev pub IsAnswered : Result Planned Refusal → Type 0
  IsAnswered r = (cs : List CheckedPiece) → All (IsSoundPiece asked) cs → AreFoundOf cs ps → Answers plan_view r (wanted_rows number wanted asked cs (lone_cell g (timeline (map source_piece cs)) k))

  pub cell_writable : (r : Result Planned Refusal) → IsAnswered r → IfOk r IsCounted
      → IfOk r (λ plan. (content : Option Files) → IfSome content (λ files. SizesAreTrue files ps) → IsWritableBy (form_of wanted) asked content plan)
  cell_writable (Err e) answered counted = tt
  cell_writable (Ok plan) answered counted = λ content sizes.
      let rows = lone_cell g (timeline (map source_piece cs)) k in
      let due = answered cs of.pieces.sound of.pieces.are in
      writable_by asked cs plan content (wanted_named number wanted asked cs rows (plan_view plan) due) (content_long content cs ps of.pieces.are sizes) counted (form_of wanted)
      (wanted_writable of.timeline of.part of.skipped (length ps) cs of.kept of.pieces.of number wanted asked g k (plan_view plan) of.pieces.sound due)

  pub cell_refused : (r : Result Planned Refusal) → IsAnswered r → IfErr r IsPathRefusal
  cell_refused r answered =
      answers_may plan_view _ (wanted_may number wanted asked cs (lone_cell g (timeline (map source_piece cs)) k)) r (answered cs of.pieces.sound of.pieces.are)

-- over a store
pub stored_writable : (form : Form) (asked : Asked) (ps : List PlanPiece) (content before : Option Files) (r : Result Planned Refusal)
    → IfOk r (λ plan. (content : Option Files) → IfSome content (λ files. SizesAreTrue files ps) → IsWritableBy form asked content plan)
    → content ≡ before → IfSome before (λ files. SizesAreTrue files ps) → IfOk r (λ plan. IsWritableBy form asked content plan)
stored_writable form asked ps content before (Err e) writable same sizes = tt
stored_writable form asked ps content before (Ok plan) writable same sizes = writable content (subst (λ (content : Option Files). IfSome content (λ files. SizesAreTrue files ps)) (sym same) sizes)
