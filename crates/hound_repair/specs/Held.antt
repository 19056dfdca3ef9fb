-- What a file holds after the header of its data, whatever its sizes say, the sizes that it should have, and what
-- follows the data.
use Rattle.std.specs.Prelude.{ℕ, ◌+◌, ◌-◌, ◌*◌, ◌/◌, ◌%◌, Bool, ◌==◌, ◌&&◌, List, [], ◌++◌, length, drop, if◌then◌else◌, zero, suc, true, false, ◌||◌, ◌∷◌, Option, None, Some, take, slice_index, slice_range, nat_le, nat_lt, bytes_eq, codes}
use Rattle.hound_spec.specs.declared.spec.WavSpecEx.{WavSpecEx}
use Rattle.hound_spec.specs.{riff_size, padding, padded}
use Rattle.hound_writer.specs.{with_sizes}
use Rattle.std.specs.List.{list_any}
use Rattle.hound_number.specs.{number}

-- how many bytes a frame has
abbrev pub frame_length : WavSpecEx → ℕ
frame_length s = s.spec.channels * s.bytes_per_sample

-- how many bytes a file holds after the header of its data
abbrev pub held : ℕ → List ℕ → ℕ
held start contents = length (drop start contents)

-- whether the bytes after the data that the header counts are a sample: a single one that isn't 0 is no pad byte (RIFF,
-- "Chunks")
abbrev pub is_sample : List ℕ → Bool
is_sample bytes = (length bytes == 1) && nat_lt 0 (slice_index bytes 0)

-- how many bytes of samples they are
unfoldable pub uncounted : List ℕ → ℕ
uncounted bytes = if is_sample bytes then 1 else 0

-- the data length that a file shows whose header says this one, by the byte after it
abbrev pub shown_length : ℕ → ℕ → List ℕ → ℕ
shown_length start len contents = len + uncounted (drop len (drop start contents))

-- Whether the last byte held is the pad byte of the data: these are whole frames of an odd length, as the data length
-- shows, and one byte follows them (RIFF, "Chunks").
unfoldable pub ends_with_pad : ℕ → ℕ → ℕ → Bool
ends_with_pad frame len n = (n == len + 1) && ((len % 2 == 1) && (len % frame == 0))

-- how many of the bytes held are data: all, but for the pad byte
unfoldable pub data_held : ℕ → ℕ → ℕ → ℕ
data_held frame len n = if ends_with_pad frame len n then len else n

-- how many whole frames they are
abbrev pub frames_held : WavSpecEx → ℕ → ℕ → ℕ
frames_held s len n = data_held (frame_length s) len n / frame_length s

-- how many bytes of a torn frame follow them
abbrev pub torn_bytes : WavSpecEx → ℕ → ℕ → ℕ
torn_bytes s len n = data_held (frame_length s) len n % frame_length s

-- the right data length: that of the whole frames
abbrev pub right_length : WavSpecEx → ℕ → ℕ → ℕ
right_length s len n = frames_held s len n * frame_length s

-- the data length counts all whole frames that are held, where a file shows this data length
abbrev pub counts_all : WavSpecEx → ℕ → ℕ → ℕ → Bool
counts_all s len shown n = len == right_length s shown n

-- the pad byte that is missing, where data of an odd length end with the file
abbrev pub missing_pad : ℕ → ℕ → List ℕ
missing_pad data_length n = if n == data_length then padding data_length else []

-- no pad byte is missing after data of this length, where n bytes are held
unfoldable pub has_pad : ℕ → ℕ → Bool
has_pad data_length n = length (missing_pad data_length n) == 0

-- both sizes are right, the data length and the RIFF size with it, and no pad byte is missing
abbrev pub are_right : WavSpecEx → ℕ → ℕ → ℕ → ℕ → ℕ → Bool
are_right s start len riff shown n =
    ((riff == riff_size start (right_length s shown n)) && has_pad (right_length s shown n) n)
    && counts_all s len shown n

-- the contents with the sizes of data of this length, and the pad byte where it is missing
abbrev pub mended : ℕ → ℕ → List ℕ → List ℕ
mended start data_length contents =
    with_sizes (start - 4) (riff_size start data_length) data_length contents
    ++ missing_pad data_length (held start contents)

-- tags of RIFF ("Multimedia Programming Interface and Data Specifications 1.0")
abbrev pub riff_tags : List (List ℕ)
riff_tags = codes "LIST" ∷ codes "INFO" ∷ codes "fact" ∷ codes "cue " ∷ codes "plst" ∷ codes "JUNK" ∷ []

-- tags of its update ("New Multimedia Data Types and Data Techniques")
abbrev pub update_tags : List (List ℕ)
update_tags = codes "PAD " ∷ codes "DISP" ∷ codes "inst" ∷ codes "smpl" ∷ []

-- tags of broadcasts: bext and levl (EBU Tech 3285), cart (AES46), axml and chna (ITU-R BS.2088), iXML
abbrev pub broadcast_tags : List (List ℕ)
broadcast_tags = codes "bext" ∷ codes "levl" ∷ codes "cart" ∷ codes "axml" ∷ codes "chna" ∷ codes "iXML" ∷ []

-- tags of metadata: XMP (Adobe), and ID3v2, for which taggers use two tags
abbrev pub metadata_tags : List (List ℕ)
metadata_tags = codes "_PMX" ∷ codes "id3 " ∷ codes "ID3 " ∷ []

-- tags of programs: acid and strc (Sonic Foundry), afsp (AFsp), PEAK (libsndfile), FLLR (Apple)
abbrev pub program_tags : List (List ℕ)
program_tags = codes "acid" ∷ codes "strc" ∷ codes "afsp" ∷ codes "PEAK" ∷ codes "FLLR" ∷ []

-- the tags that show that a chunk begins, whatever follows them
abbrev pub known_tags : List (List ℕ)
known_tags = riff_tags ++ update_tags ++ broadcast_tags ++ metadata_tags ++ program_tags

-- the first four bytes are such a tag
unfoldable pub has_known_tag : List ℕ → Bool
has_known_tag bytes = list_any (λ tag. bytes_eq tag (take 4 bytes)) known_tags

-- a byte that ASCII prints, the space too
abbrev pub is_printable : ℕ → Bool
is_printable b = nat_le 32 b && nat_le b 126

-- the bytes begin with a tag of four printable bytes
abbrev pub has_tag : List ℕ → Bool
has_tag bytes =
    is_printable (slice_index bytes 0)
    && (is_printable (slice_index bytes 1)
    && (is_printable (slice_index bytes 2) && is_printable (slice_index bytes 3)))

-- the length that the header of a chunk says
abbrev pub said_length : List ℕ → ℕ
said_length bytes = number (slice_range bytes 4 8)

-- how many bytes the content of the chunk takes that begins here, if one with a printable tag does and its content is
-- whole; the pad byte may lack
unfoldable pub chunk_content : List ℕ → Option ℕ
chunk_content bytes =
    if nat_lt (length bytes) 8 then None
    else if has_tag bytes && nat_le (8 + said_length bytes) (length bytes)
    then Some (padded (said_length bytes)) else None

-- f of a number, if there is one
abbrev pub if_some : Option ℕ → (ℕ → Bool) → Bool
if_some None f = false
if_some (Some n) f = f n

-- the bytes are at most so many chunks with printable tags, one after the other, up to their end or to a known tag
unfoldable pub are_at_most : ℕ → List ℕ → Bool
are_at_most n [] = true
are_at_most zero (b ∷ bytes) = false
are_at_most (suc n) (b ∷ bytes) =
    has_known_tag (b ∷ bytes)
    || if_some (chunk_content (b ∷ bytes)) (λ content. are_at_most n (drop (8 + content) (b ∷ bytes)))

-- the bytes are chunks, of which each has at least eight bytes
unfoldable pub are_chunks : List ℕ → Bool
are_chunks bytes = are_at_most (length bytes) bytes

-- a chunk begins here: there are bytes, and they are chunks
abbrev pub begins_chunk : List ℕ → Bool
begins_chunk bytes = nat_lt 0 (length bytes) && are_chunks bytes

-- an ID3v1 tag is at the end, not in data of this length: 128 bytes that begin with TAG
unfoldable pub ends_with_id3 : ℕ → List ℕ → Bool
ends_with_id3 len bytes =
    nat_le (len + 128) (length bytes)
    && bytes_eq (take 3 (drop (length bytes - 128) bytes)) (codes "TAG")

-- Data of this length weren't cut off, by the bytes that a file holds from the data on: a chunk begins after them, with
-- or without a pad byte, or an ID3v1 tag is at the end.
unfoldable pub is_followed : ℕ → List ℕ → Bool
is_followed len bytes =
    begins_chunk (drop (padded len) bytes)
    || (begins_chunk (drop len bytes) || ends_with_id3 len bytes)
