-- What a command on a type becomes, by what is found of the type.
use Rattle.std.proofs.Common.{◌≡◌, ℕ, Bool, true, false, not, ◌||◌, List, Option, Some, None}
use Rattle.std.proofs.Common.{Result, Ok, Err, ap, sym, subst}
use Rattle.std.specs.Prelude.{if◌then◌else◌}
use Rattle.gm_base.specs.declared.code.Code.TheVariants.{E04, E06}
use Rattle.gm_types.specs.Specification.{Specification}
use Rattle.gm_types.specs.Words.{is_name}
use Rattle.gm_ecql.specs.Outcome.{filter_outcome}
use Rattle.gm_script.specs.declared.command.Ask.{Ask}
use Rattle.gm_script.specs.declared.command.Command.{Command}
use Rattle.gm_script.specs.declared.fault.LineFault.{LineFault}
use Rattle.gm_script.specs.declared.fault.LineFault.TheVariants as fault
use Rattle.gm_script.specs.Ask.{hinted}
use Rattle.gm_script.specs.Order.{Asked, Order}
use Rattle.gm_script.specs.Reading.{refused, type_named, on_type, with_rest, type_for}
use Rattle.gm_script.specs.Reading.{Reads, ReadsAsk, ask_named, ask_read}
use Rattle.gm_script.specs.Words.{is_nothing}
use Rattle.gm_script.proofs.FormedLines.{OnType}

same_ok : {A E : Type 0} (x y : A) → ◌≡◌ {A = Result A E} (Ok x) (Ok y) → x ≡ y
same_ok x y same = cc

same_err : {A E : Type 0} (x y : E) → ◌≡◌ {A = Result A E} (Err x) (Err y) → x ≡ y
same_err x y same = cc

-- what is done where a text is unformed, or on what is found
abbrev done : {A : Type 0} → OnType A → Bool → Option (ℕ × Specification) → Result A LineFault
done on unformed found = if unformed then refused E04 else on_type on found

abbrev itself : OnType (ℕ × Specification)
itself = λ n t. Ok (n, t)

at_type : {A : Type 0} (on : OnType A) (unformed : Bool) (found : Option (ℕ × Specification))
    (n : ℕ) (t : Specification) → done itself unformed found ≡ Ok (n, t)
    → done on unformed found ≡ on n t
at_type on true found n t is = absurd (cc)
at_type on false None n t is = absurd (cc)
at_type on false (Some found) n t is = ap (λ p. on p.0 p.1) (same_ok (found.0, found.1) (n, t) is)

at_fault : {A : Type 0} (on : OnType A) (unformed : Bool) (found : Option (ℕ × Specification))
    (why : LineFault) → done itself unformed found ≡ Err why → done on unformed found ≡ Err why
at_fault on true found why is = ap (λ w. Err w) (same_err (fault.Refused E04 0) why is)
at_fault on false None why is = ap (λ w. Err w) (same_err (fault.Refused E06 0) why is)
at_fault on false (Some found) why is = absurd (cc)

pub typed : {A : Type 0} (types : List Specification) (name rest : List ℕ) (on : OnType A) (n : ℕ)
    (t : Specification) → type_for types name rest ≡ Ok (n, t)
    → with_rest types name rest on ≡ on n t
typed types name rest on n t is =
    at_type on (not (is_name name) || is_nothing rest) (type_named types name) n t is

pub untyped : {A : Type 0} (types : List Specification) (name rest : List ℕ) (on : OnType A)
    (why : LineFault) → type_for types name rest ≡ Err why → with_rest types name rest on ≡ Err why
untyped types name rest on why is =
    at_fault on (not (is_name name) || is_nothing rest) (type_named types name) why is

-- ---- the answers of a reader
pub reads_typed : (types : List Specification) (name rest : List ℕ) (on : OnType Order) (n : ℕ)
    (t : Specification) (result : Result Command LineFault) → type_for types name rest ≡ Ok (n, t)
    → Reads (on n t) result → Reads (with_rest types name rest on) result
reads_typed types name rest on n t result is reads =
    subst (λ said. Reads said result) (sym (typed types name rest on n t is)) reads

refusal : (said : Result Order LineFault) (why : LineFault) → said ≡ Err why → Reads said (Err why)
refusal said (fault.Refused code lines) is = is
refusal said fault.NoMemory is = tt

pub reads_untyped : (types : List Specification) (name rest : List ℕ) (on : OnType Order)
    (why : LineFault) → type_for types name rest ≡ Err why
    → Reads (with_rest types name rest on) (Err why)
reads_untyped types name rest on why is =
    refusal (with_rest types name rest on) why (untyped types name rest on why is)

pub asks_typed : (types : List Specification) (name rest : List ℕ) (hint : Option (List ℕ))
    (target n : ℕ) (t : Specification) (result : Result Ask LineFault)
    → type_for types name rest ≡ Ok (n, t)
    → ReadsAsk (ask_read n target (hinted t hint) (filter_outcome t rest)) result
    → ReadsAsk (ask_named types name hint target rest) result
asks_typed types name rest hint target n t result is reads =
    subst (λ said. ReadsAsk said result)
    (sym (typed types name rest
    (λ n t. ask_read n target (hinted t hint) (filter_outcome t rest)) n t is)) reads

ask_refusal : (said : Result Asked LineFault) (why : LineFault) → said ≡ Err why
    → ReadsAsk said (Err why)
ask_refusal said (fault.Refused code lines) is = is
ask_refusal said fault.NoMemory is = tt

pub asks_untyped : (types : List Specification) (name rest : List ℕ) (hint : Option (List ℕ))
    (target : ℕ) (why : LineFault) → type_for types name rest ≡ Err why
    → ReadsAsk (ask_named types name hint target rest) (Err why)
asks_untyped types name rest hint target why is =
    ask_refusal (ask_named types name hint target rest) why
    (untyped types name rest (λ n t. ask_read n target (hinted t hint) (filter_outcome t rest))
    why is)
