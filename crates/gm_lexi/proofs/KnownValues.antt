-- The forms at known values: those of the format, and the ends of each kind.
use Rattle.std.proofs.Common.{◌≡◌, pos, negsuc, true, false, [], ◌∷◌, Some, None, refl}
use Rattle.gm_lexi.specs.Lexicode.{int_bytes, long_bytes, date_bytes, bool_bytes, text_bytes}
use Rattle.gm_lexi.specs.Ends.{after_of}

int_0 : int_bytes (pos 0) ≡ 0x80 ∷ 0 ∷ 0 ∷ 0 ∷ []
unfolding int_bytes
int_0 = refl

int_below_0 : int_bytes (negsuc 0) ≡ 0x7F ∷ 0xFF ∷ 0xFF ∷ 0xFF ∷ []
unfolding int_bytes
int_below_0 = refl

least_int : int_bytes (negsuc 2_147_483_647) ≡ 0 ∷ 0 ∷ 0 ∷ 0 ∷ []
unfolding int_bytes
least_int = refl

greatest_int : int_bytes (pos 2_147_483_647) ≡ 0xFF ∷ 0xFF ∷ 0xFF ∷ 0xFF ∷ []
unfolding int_bytes
greatest_int = refl

long_258 : long_bytes (pos 258) ≡ 0x80 ∷ 0 ∷ 0 ∷ 0 ∷ 0 ∷ 0 ∷ 1 ∷ 2 ∷ []
unfolding long_bytes
long_258 = refl

least_long : long_bytes (negsuc 9_223_372_036_854_775_807) ≡ 0 ∷ 0 ∷ 0 ∷ 0 ∷ 0 ∷ 0 ∷ 0 ∷ 0 ∷ []
unfolding long_bytes
least_long = refl

-- 1969-12-31T23:59:59.999Z
date_before_1970 : date_bytes (negsuc 0)
    ≡ 0x7F ∷ 0xFF ∷ 0xFF ∷ 0xFF ∷ 0xFF ∷ 0xFF ∷ 0xFF ∷ 0xFF ∷ []
unfolding long_bytes
date_before_1970 = refl

truth : bool_bytes true ≡ 1 ∷ []
truth = refl

falsehood : bool_bytes false ≡ 0 ∷ []
falsehood = refl

text_ab : text_bytes (97 ∷ 98 ∷ []) ≡ 97 ∷ 98 ∷ 0 ∷ []
text_ab = refl

after_ab : after_of (97 ∷ 98 ∷ []) ≡ Some (97 ∷ 99 ∷ [])
after_ab = refl

after_full : after_of (97 ∷ 0xFF ∷ 0xFF ∷ []) ≡ Some (98 ∷ [])
after_full = refl

after_all_full : after_of (0xFF ∷ 0xFF ∷ []) ≡ None
after_all_full = refl

after_nothing : after_of [] ≡ None
after_nothing = refl
