use Rattle.std.proofs.Common.{ℕ, zero, suc, List, refl, lit<}
use Rattle.std.specs.List.{All, repeat}
use Rattle.std.specs.Fmt.{digits}
use Rattle.std.proofs.lemmas.List.Elements.{All-append, All-from_recursion, All-nil}
use Rattle.byteorder.specs.Endian.{big_bytes}
use Rattle.hex.specs.Hex.{encode_with}
use Rattle.array_model.specs.Script.{sector_of}
use Rattle.array_model.specs.Small.{the_value}
use Rattle.array_model.specs.Fits.{IsByte, IsSector}
use Rattle.journal_text.proofs.law.example_of_a_text.Goals as goal

All-repeat : (P : ℕ → Type 0) (n : ℕ) (xs : List ℕ) → All P xs → All P (repeat n xs)
All-repeat P zero xs all = All-nil P
All-repeat P (suc n) xs all = All-append P xs (repeat n xs) all (All-repeat P n xs all)

value_fits : IsSector (sector_of the_value)
value_fits = (refl, All-repeat IsByte 64 (big_bytes 8 the_value) (All-from_recursion IsByte (big_bytes 8 the_value) (lit< tt, (lit< tt, (lit< tt, (lit< tt, (lit< tt, (lit< tt, (lit< tt, (lit< tt, tt))))))))))

pub returns-clause-text : goal.returns-clause-text
unfolding digits encode_with
returns-clause-text c = refl

pub returns-clause-fits : goal.returns-clause-fits
returns-clause-fits c = ((lit< tt, lit< tt), ((lit< tt, lit< tt), ((lit< tt, lit< tt), ((lit< tt, lit< tt), ((lit< tt, lit< tt), ((lit< tt, lit< tt), ((lit< tt, lit< tt), ((lit< tt, lit< tt), ((lit< tt, (lit< tt, tt)), ((lit< tt, lit< tt), ((lit< tt, (lit< tt, value_fits)), ((lit< tt, lit< tt), ((lit< tt, lit< tt), ((lit< tt, lit< tt), ((lit< tt, lit< tt), tt)))))))))))))))
