-- The names of what a form tells, in the order of its steps.
use Rattle.std.specs.Prelude.{ℕ, zero, suc, List, [], ◌∷◌, ◌++◌, codes}
use Rattle.std.specs.List.{flat_map}
use Rattle.gtp_forms.specs.declared.form.How.{How}
use Rattle.gtp_forms.specs.declared.form.How.TheVariants as hows
use Rattle.gtp_forms.specs.declared.form.View.{View}
use Rattle.gtp_forms.specs.declared.form.Case.{Case}
use Rattle.gtp_forms.specs.declared.form.Step.{Step}
use Rattle.gtp_forms.specs.declared.form.Step.TheVariants as steps
use Rattle.gtp_forms.specs.Reading.{Tables, form_at}

-- a value without a name of its own
abbrev pub value_name : List ℕ → List ℕ
value_name [] = codes " value"
value_name (c ∷ name) = codes " " ++ (c ∷ name)

-- what is seen in octets; spare octets have no name
abbrev pub seen_name : How → List ℕ → List ℕ
seen_name hows.Network name = codes " mcc mnc"
seen_name hows.Spare name = []
seen_name (hows.Number b) name = value_name name
seen_name (hows.Named b words) name = value_name name
seen_name (hows.Flag b) name = value_name name
seen_name (hows.Spelled s) name = value_name name

abbrev pub view_names : List View → List ℕ
view_names views = flat_map (λ (v : View). seen_name v.how v.name.now) views

-- a part: its name, and in parentheses what it has; in line without a name
abbrev pub within : List ℕ → List ℕ → List ℕ
within [] inner = inner
within (c ∷ name) inner = codes " " ++ ((c ∷ name) ++ (codes " (" ++ (inner ++ codes " )")))

abbrev pub case_names : (ℕ → List ℕ) → List Case → List ℕ
case_names form cases = flat_map (λ (c : Case). within c.name.now (form c.form)) cases

-- a list: its name with a star, and in parentheses what an item has
abbrev pub list_names : List ℕ → List ℕ → List ℕ
list_names name inner = codes " " ++ (name ++ (codes "* (" ++ (inner ++ codes " )")))

abbrev pub step_names : (ℕ → List ℕ) → Step → List ℕ
step_names form (steps.Field octets views) = view_names views.now
step_names form (steps.All views) = view_names views.now
step_names form (steps.Keep octets) = []
step_names form steps.May = []
step_names form (steps.Choose b cases) = case_names form cases.now
step_names form (steps.Each list name n) = list_names list.now (form n)
step_names form (steps.Times b list name n) = list_names list.now (form n)
step_names form (steps.Sized octets less n) = form n

-- of at most so many forms in one another
unfoldable pub described : Tables → ℕ → ℕ → List ℕ
described forms zero n = []
described forms (suc depth) n = flat_map (step_names (λ m. described forms depth m)) (form_at forms n)
