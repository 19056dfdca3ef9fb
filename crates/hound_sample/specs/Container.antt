-- The container of a sample: its bytes in the file (WAVEFORMATEX, "wBitsPerSample", "nBlockAlign"); what the calls that
-- make it return; and those of many samples.
use Rattle.std.specs.Prelude.{ℕ, zero, suc, ℤ, pos, negsuc, ◌+◌, ◌-◌, ◌/◌, ◌^◌, Bool, ◌==◌, nat_lt, if◌then◌else◌, List, [], ◌∷◌, ◌++◌, take, drop, replicate, Result, Ok, Err, ◌≡◌, ◌<◌, length, Option}
use Rattle.hound_number.specs.{bytes_of, signed_bytes_of}
use Rattle.hound_spec.specs.{is_pair}
use Rattle.hound_spec.specs.declared.spec.SampleFormat.TheVariants.{Int, Float}
use Rattle.std.specs.Io.KnownBytes.{Appends}
use Rattle.hound_spec.specs.declared.error.Error.{Error}
use Rattle.hound_spec.specs.declared.error.Error.TheVariants.{IoError, TooWide, Unsupported}
use Rattle.std.specs.List.{flat_map}

-- why a value has no container: it needs more bits, or its type is not written with these bits and bytes
pub data Rejection : Type 0 where
  too_wide : Rejection
  unsupported : Rejection

-- whether a number is one of so many signed bits: from -2 ^ (bits - 1) to 2 ^ (bits - 1) - 1
abbrev pub fits : ℕ → ℤ → Bool
fits bits (pos n) = nat_lt n (2 ^ (bits - 1))
fits bits (negsuc n) = nat_lt n (2 ^ (bits - 1))

-- a number of eight bits as an unsigned byte, which counts from -128
abbrev pub offset_byte : ℤ → List ℕ
offset_byte (pos n) = bytes_of 1 (128 + n)
offset_byte (negsuc n) = bytes_of 1 (127 - n)

abbrev pub if_fits : ℕ → ℤ → List ℕ → Result (List ℕ) Rejection
if_fits bits v container = if fits bits v then Ok container else Err too_wide

-- an integer in this many used bits and bytes: one byte counts from -128; more are signed, with zeros after the used
-- bits
abbrev pub int_bytes : ℤ → ℕ → ℕ → List ℕ
int_bytes v bits width =
    if width == 1 then offset_byte v
    else (signed_bytes_of (bits / 8) v ++ replicate (width - bits / 8) 0)

-- the container of an integer, by the used bits and the bytes, which are checked before the value
unfoldable pub int_container : ℤ → ℕ → ℕ → Result (List ℕ) Rejection
int_container v bits width = if is_pair Int bits width then if_fits bits v (int_bytes v bits width) else Err unsupported

-- the container of a pattern of 32 bits, by the used bits and the bytes
unfoldable pub pattern_container : ℕ → ℕ → ℕ → Result (List ℕ) Rejection
pattern_container pattern bits width = if is_pair Float bits width then Ok (bytes_of 4 pattern) else Err unsupported

-- the first containers of data, so many of this width
abbrev pub containers : ℕ → ℕ → List ℕ → List (List ℕ)
containers width zero bytes = []
containers width (suc count) bytes = take width bytes ∷ containers width count (drop width bytes)

-- the error for why a value has no container
abbrev pub error_of : Rejection → Error
error_of too_wide = TooWide
error_of unsupported = Unsupported

-- `encode`: the container, and zeros after it up to four bytes, or the error
abbrev pub IsEncoded : Result (List ℕ) Rejection → Result (List ℕ) Error → Type 0
IsEncoded (Ok container) result = result ≡ Ok (container ++ replicate (4 - length container) 0)
IsEncoded (Err rejection) result = result ≡ Err (error_of rejection)

-- `write_padded`: exactly the container was written, or a shorter beginning of it if the writer failed; nothing if
-- there is no container
abbrev pub WritesContainer : {T : Type 0} → Result (List ℕ) Rejection → Option (List ℕ)
    → Option (List ℕ) → Result T Error → Type 0
WritesContainer (Ok container) old new (Ok x) = Appends old new container
WritesContainer (Ok container) old new (Err (IoError e)) = (n : ℕ) × (n < length container)
    × Appends old new (take n container)
WritesContainer (Ok container) old new (Err _) = ⊥
WritesContainer (Err rejection) old new result = (result ≡ Err (error_of rejection)) × (new ≡ old)

-- a container and those after it, or the first error among them
abbrev pub and_more : Result (List ℕ) Rejection → Result (List (List ℕ)) Rejection → Result (List (List ℕ)) Rejection
and_more (Err rejection) more = Err rejection
and_more (Ok container) (Err rejection) = Err rejection
and_more (Ok container) (Ok list) = Ok (container ∷ list)

-- the containers of values, in their order, or the error of the first value that has none
abbrev pub all_containers : {V : Type 0} → (V → Result (List ℕ) Rejection) → List V → Result (List (List ℕ)) Rejection
all_containers container [] = Ok []
all_containers container (value ∷ values) = and_more (container value) (all_containers container values)

-- the bytes of a container, if there is one
abbrev pub bytes_in : Result (List ℕ) Rejection → List ℕ
bytes_in (Ok container) = container
bytes_in (Err rejection) = []

-- the containers of values, joined
abbrev pub joined_containers : {V : Type 0} → (V → Result (List ℕ) Rejection) → List V → List ℕ
joined_containers container values = flat_map (λ value. bytes_in (container value)) values
