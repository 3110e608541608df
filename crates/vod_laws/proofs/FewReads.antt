-- Bounds on the number of reads.
use Rattle.std.proofs.Common.{◌≡◌, ℕ, zero, suc, ◌+◌, ◌-◌, ◌*◌, ◌<◌, ◌≤◌, Bool, true, false, cond, ltb, leb, min, List, [], ◌∷◌, ◌++◌, length, drop, Option, Some, None, Result, Ok, Err, refl, sym, ap, subst, arith}
use Rattle.std.specs.Prelude.{find, codes, bytes_eq, is_ok}
use Rattle.std.specs.List.{list_any}
use Rattle.std.specs.Option.{option_map_or}
use Rattle.std.proofs.lemmas.Bool.{cond_both, leb-true}
use Rattle.std.proofs.lemmas.Bool.Decides.{nat_tests}
use Rattle.std.proofs.lemmas.List.{length-append, length-map}
use Rattle.vod_types.specs.declared.paths.Target.{Target}
use Rattle.vod_types.specs.declared.paths.Target.TheVariants.{One, Many}
use Rattle.vod_types.specs.Ranges.{range_reads}
use Rattle.vod_types.specs.Files.{store_name}
use Rattle.vod_types.proofs.RangesLemmas.{range_reads-none, range_reads-last, range_reads-step}
use Rattle.vod_types.proofs.StepLemmas.{bind_ok, by_bool}
use Rattle.mp4_model.specs.declared.BoxHead.{BoxHead}
use Rattle.mp4_model.specs.declared.MoviePlace.{MoviePlace}
use Rattle.mp4_model.specs.Boxes.{PlacedBox, header}
use Rattle.mp4_model.specs.Movie.{FileFault, BadBox, NoMovie, MovieTooLong, is_moov, first_boxes, bad_place_before, moov_of_size, moov_among, movie_place, header_reads, place_reads, moov_reads, movie_reads}
use Rattle.mp4_model.proofs.MovieWalk.{header_reads-none, header_reads-step, header_reads-end}
use Rattle.list_model.specs.Path.{is_local}
use Rattle.vod_source.specs.Ranges.{of_file, file_reads}
use Rattle.vod_source.specs.Stored.{Files, Read, file_named}
use Rattle.origin_model.specs.Loaded.{loaded}
use Rattle.origin_model.specs.Reads.{Cache, file_turn_reads, turn_by, turn, turns, mapping_reads_by, looks_of, names_taken, ask_reads}
use Rattle.origin_model.specs.Requests.{Setup}
use Rattle.vod_laws.specs.Reads.{FewMovieReads, FewMappingReads, FewRequestReads}

-- ---- a range

-- as many reads as there are pieces of 65,536 bytes, the last of which may be a rest
range_few : (m at n : ℕ) → n ≤ m * 65536 → length (range_reads at n) ≤ m
range_few m at zero le = subst (λ (rs : List (ℕ × ℕ)). length rs ≤ m) (sym (range_reads-none at)) (omega arith)
range_few zero at (suc n) le = absurd (omega (arith, le))
range_few (suc m) at (suc n) le = by_size (range_few m (at + 65536) (suc n - 65536)) (leb 65536 (suc n)) refl
  where
    by_size : (suc n - 65536 ≤ m * 65536 → length (range_reads (at + 65536) (suc n - 65536)) ≤ m) → (b : Bool) → leb 65536 (suc n) ≡ b → length (range_reads at (suc n)) ≤ suc m
    by_size later true e =
        let long : 65536 ≤ suc n = grind (arith, nat_tests) in
        let rest = later (omega (arith, le, long)) in
        subst (λ (rs : List (ℕ × ℕ)). length rs ≤ suc m) (sym (range_reads-step at (suc n) long)) (omega (arith, rest))
    by_size later false e =
        let short : suc n < 65536 = grind (arith, nat_tests) in
        subst (λ (rs : List (ℕ × ℕ)). length rs ≤ suc m) (sym (range_reads-last at (suc n) (omega arith) short)) (omega arith)

-- ---- the headers

headers_few : (n at : ℕ) (bytes : List ℕ) → length (header_reads n at bytes) ≤ n
headers_few zero at bytes = subst (λ (rs : List (ℕ × ℕ)). length rs ≤ 0) (sym (header_reads-none at bytes)) (omega arith)
headers_few (suc n) at bytes = by_header (λ h. headers_few n (at + h.size) (drop h.size bytes)) (header bytes (length bytes)) refl
  where
    by_header : ((h : BoxHead) → length (header_reads n (at + h.size) (drop h.size bytes)) ≤ n) → (o : Option BoxHead) → header bytes (length bytes) ≡ o → length (header_reads (suc n) at bytes) ≤ suc n
    by_header later None e =
        subst (λ (rs : List (ℕ × ℕ)). length rs ≤ suc n) (sym (header_reads-end n at bytes e))
        (cond_both (leb 8 (length bytes)) ((at, min 16 (length bytes)) ∷ []) [] (λ (rs : List (ℕ × ℕ)). length rs ≤ suc n) (λ _. omega arith) (λ _. omega arith))
    by_header later (Some h) e =
        let rest = later h in
        subst (λ (rs : List (ℕ × ℕ)). length rs ≤ suc n) (sym (header_reads-step n at bytes h e))
        (cond_both (bytes_eq h.kind (codes "moov")) [] (header_reads n (at + h.size) (drop h.size bytes)) (λ (rs : List (ℕ × ℕ)). length ((at, min 16 (length bytes)) ∷ rs) ≤ suc n) (λ _. omega arith) (λ _. omega (arith, rest)))

-- ---- `moov`

sized : (at size : ℕ) (found : ℕ × ℕ) → moov_of_size at size ≡ Ok found → found.1 ≤ 33554432
sized at size found = by_size (ltb 33554432 size) refl
  where
    by_size : (b : Bool) → ltb 33554432 size ≡ b → ◌≡◌ {A = Result (ℕ × ℕ) FileFault} (cond b (Err (MovieTooLong size)) (Ok (at, size))) (Ok found) → found.1 ≤ 33554432
    by_size true t e = absurd (cc)
    by_size false t e =
        let fits : size ≤ 33554432 = grind (arith, nat_tests) in
        let same : (at, size) ≡ found = cc in
        subst (λ (f : ℕ × ℕ). f.1 ≤ 33554432) same fits

moov_small : (most at : ℕ) (bytes : List ℕ) (found : ℕ × ℕ) → moov_among most at bytes ≡ Ok found → found.1 ≤ 33554432
unfolding moov_among
moov_small most at bytes found = by_box (find is_moov (first_boxes most at bytes))
  where
    no_place : (bad : Option ℕ) → ◌≡◌ {A = Result (ℕ × ℕ) FileFault} (option_map_or (λ (p : ℕ). Err (BadBox p)) bad (Err NoMovie)) (Ok found) → found.1 ≤ 33554432
    no_place None e = absurd (cc)
    no_place (Some p) e = absurd (cc)

    by_box : (o : Option PlacedBox) →
        ◌≡◌ {A = Result (ℕ × ℕ) FileFault}
        (option_map_or (λ (b : PlacedBox). moov_of_size b.at (b.head + length b.body)) o (option_map_or (λ (p : ℕ). Err (BadBox p)) (bad_place_before most at bytes) (Err NoMovie)))
        (Ok found)
        → found.1 ≤ 33554432
    by_box None e = no_place (bad_place_before most at bytes) e
    by_box (Some b) e = sized b.at (b.head + length b.body) found e

place_small : (file : List ℕ) (place : MoviePlace) → movie_place file ≡ Ok place → place.size ≤ 33554432
unfolding movie_place
place_small file place e =
    let found = bind_ok (moov_among 64 0 file) _ place e in
    let made : MoviePlace = record { file_size = length file; at = found.0.0; size = found.0.1 } in
    let same : made ≡ place = cc (found.2) in
    subst (λ (p : MoviePlace). p.size ≤ 33554432) same (moov_small 64 0 file found.0 found.1)

moov_few : (file : List ℕ) (r : Result MoviePlace FileFault) → movie_place file ≡ r → length (moov_reads r) ≤ 512
moov_few file (Ok place) e = range_few 512 place.at place.size (place_small file place e)
moov_few file (Err fault) e = omega arith

-- ---- a movie and a mapping

pub few_movie_reads : FewMovieReads
unfolding movie_reads place_reads
few_movie_reads file =
    let headers = headers_few 64 0 file in
    (headers, omega (arith, length-append (place_reads file) (moov_reads (movie_place file)), headers, moov_few file (movie_place file) refl))

length-of_file : (name : List ℕ) (rs : List (ℕ × ℕ)) → length (of_file name rs) ≡ length rs
length-of_file name rs = length-map {B = Read} rs (λ r. (name, r.0, r.1))

pub few_mapping_reads : FewMappingReads
unfolding file_reads
few_mapping_reads name n le = omega (arith, length-of_file name (range_reads 0 n), range_few 16 0 n le)

-- ---- a request

file_turn_few : (files : Files) (name : List ℕ) → length (file_turn_reads files name) ≤ 576
file_turn_few files name = by_file (file_named files name)
  where
    by_file : (o : Option (List ℕ)) → length (of_file name (option_map_or movie_reads o [])) ≤ 576
    by_file None = omega arith
    by_file (Some file) = omega (arith, length-of_file name (movie_reads file), (few_movie_reads file).1)

turn_by_few : (files : Files) (cached loads : Bool) (cache : Cache) (name : List ℕ) → length (turn_by files cached loads cache name).reads ≤ 576
turn_by_few files true loads cache name = omega arith
turn_by_few files false true cache name = file_turn_few files name
turn_by_few files false false cache name = file_turn_few files name

turn_few : (files : Files) (cache : Cache) (name : List ℕ) → length (turn files cache name).reads ≤ 576
unfolding turn
turn_few files cache name = turn_by_few files (list_any (bytes_eq name) cache) (is_ok (loaded files name)) cache name

turns_few : (files : Files) (cache : Cache) (names : List (List ℕ)) → length (turns files cache names).reads ≤ length names * 576
unfolding turns
turns_few files cache [] = omega arith
turns_few files cache (name ∷ names) =
    let first = turn files cache name in
    let later = turns files first.cache names in
    omega (arith, length-append first.reads later.reads, turn_few files cache name, turns_few files first.cache names)

mapping_few : (o : Setup) (local : Bool) (target : Target) → length (mapping_reads_by o local target) ≤ 16
mapping_few o true target = omega arith
mapping_few o false (Many names) = omega arith
mapping_few o false (One name) = by_file (file_named o.files (store_name o.root name))
  where
    file : List ℕ
    file = store_name o.root name

    by_file : (found : Option (List ℕ)) → length (option_map_or (λ (bytes : List ℕ). cond (leb (length bytes) 1048576) (file_reads file 0 (length bytes)) []) found []) ≤ 16
    by_file None = omega arith
    by_file (Some bytes) = by_bool (leb (length bytes) 1048576) (file_reads file 0 (length bytes)) [] (λ (rs : List Read). length rs ≤ 16)
        (λ short. few_mapping_reads file (length bytes) (leb-true (length bytes) 1048576 short)) (λ _. omega arith)

pub few_request_reads : FewRequestReads
unfolding ask_reads
few_request_reads o cache with_body taken range ask =
    let looks = looks_of o range ask in
    let mapping = mapping_reads_by o (is_local ask.place) ask.target in
    let turned = (turns o.files cache (names_taken looks taken)).reads in
    let samples = cond with_body looks.samples [] in
    let whole : ask_reads o cache with_body taken range ask ≡ (mapping ++ turned) ++ samples = refl in
    omega (
      arith,
      ap length whole,
      length-append (mapping ++ turned) samples,
      length-append mapping turned,
      mapping_few o (is_local ask.place) ask.target,
      turns_few o.files cache (names_taken looks taken),
      few with_body looks.samples,
    )
  where
    few : (b : Bool) (rs : List Read) → length (cond b rs []) ≤ length rs
    few true rs = omega arith
    few false rs = omega arith
