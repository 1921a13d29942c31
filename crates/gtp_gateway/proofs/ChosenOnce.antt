-- What the clauses choose is one: the lowest address and identity, the next TEIDs and the next free number.
use Rattle.std.proofs.Common.{◌≡◌, ⊎_elim, ℕ, ◌+◌, ◌%◌, true, false, List, length, Some, None, sym, ◌∙◌, ap, subst, arith}
use Rattle.std.proofs.lemmas.Bool.{cases_eq, cases_order}
use Rattle.std.specs.FinMap.{get, insert, same_map, nat_cmp-IsAntisymmetric}
use Rattle.std.specs.Cmp.{nat_cmp_total}
use Rattle.gtp_values.specs.FiniteMap.{FiniteMap}
use Rattle.gtp_tables.specs.Drawn.{drawn_up_to}
use Rattle.gtp_tables.specs.declared.pool.Pools.{Pools}
use Rattle.gtp_tables.specs.declared.pool.IpVersion.{IpVersion}
use Rattle.gtp_tables.specs.Free.{address_at, IsLowestFree}
use Rattle.gtp_tables.specs.Identity.{IsLowestUnused}
use Rattle.gtp_tables.specs.Part.{part_of}
use Rattle.gtp_reliable.specs.Pending.{numbers, is_pending, IsNextFree}
use Rattle.gtp_reliable.specs.Waiting.{Waiting}
use Rattle.gtp_machine.specs.Node.{Session, Bearer, Node}
use Rattle.gtp_machine.proofs.Basics.FiniteMaps.{found-insert, get-insert_same, get-insert_other}
use Rattle.gtp_machine.proofs.Determined.Alike.{ComesBeside}
use Rattle.gtp_gateway.specs.declared.command.purpose.Purpose.{Purpose}
use Rattle.gtp_gateway.specs.receive.Choosing.{MakesLowestSession, MakesLowestBearer}

-- ---- the lowest is one

pub one_lowest_address : (version : IpVersion) (sessions : FiniteMap Session) (pools : Pools) (a b : List ℕ) → IsLowestFree version sessions pools a → IsLowestFree version sessions pools b → a ≡ b
one_lowest_address version sessions pools a b l m = ⊎_elim
    (λ same. l.is ∙ (ap (λ k. address_at pools version k) same ∙ sym m.is))
    (λ apart. ⊎_elim
    (λ less. let h = m.lower l.place less in absurd (l.unused h.teid h.session h.stands (h.has ∙ ap (λ k. Some k) (sym l.is))))
    (λ more. let h = l.lower m.place more in absurd (m.unused h.teid h.session h.stands (h.has ∙ ap (λ k. Some k) (sym m.is))))
    apart)
    (cases_order l.place m.place)

pub one_lowest_identity : (bearers : FiniteMap Bearer) (session i j : ℕ) → IsLowestUnused bearers session i → IsLowestUnused bearers session j → i ≡ j
one_lowest_identity bearers session i j l m = ⊎_elim
    (λ same. same)
    (λ apart. ⊎_elim
    (λ less. let h = m.lower i (omega (arith, l.range)) less in absurd (l.unused h.teid h.bearer h.stands h.of h.has))
    (λ more. let h = l.lower j (omega (arith, m.range)) more in absurd (m.unused h.teid h.bearer h.stands h.of h.has))
    apart)
    (cases_order i j)

-- beside one new entry the same stood
pub same_beside : {X : Type 0} (m n : FiniteMap X) (key : ℕ) (x y : X) → get m key ≡ None → get n key ≡ None → insert m key x ≡ insert n key y → m ≡ n
same_beside {X} m n key x y absent missing same = same_map nat_cmp_total nat_cmp-IsAntisymmetric m n (λ q. ⊎_elim
    (λ at. ap (λ k. get m k) at ∙ (absent ∙ sym (ap (λ k. get n k) at ∙ missing)))
    (λ away. sym (get-insert_other m key x q away) ∙ (ap (λ (k : FiniteMap X). get k q) same ∙ get-insert_other n key y q away))
    (cases_eq q key))

-- what comes beside others comes there alone
module _ {X : Type 0} (old new others mine : FiniteMap X) (t u : ℕ) (x y : X) (beside : ComesBeside old new others t x)
    (is : new ≡ insert mine u y) (lone : get mine u ≡ None) (before : get old u ≡ None) where
  same_entry : (u ≡ t) × (x ≡ y)
  same_entry =
      let here : get (insert others t x) u ≡ Some y = ap (λ (k : FiniteMap X). get k u) (sym beside.is ∙ is) ∙ get-insert_same mine u y in
      let none : get others u ≡ None = beside.stood u before in
      ⊎_elim (λ same. same) (λ other. absurd (never none other.1)) (found-insert others t x u y here)
    where
      never : get others u ≡ None → get others u ≡ Some y → ⊥
      never none e = cc

  same_others : mine ≡ others
  same_others = same_beside mine others u y x lone (beside.stood u before) (sym is ∙ (beside.is ∙ ap (λ k. insert others k x) (sym same_entry.0)))

-- each part of the address of a session that was made beside others
pub lowest_address : (old new : Node) (others : FiniteMap Session) (t : ℕ) (a : Session) → MakesLowestSession old new
    → ComesBeside old.sessions new.sessions others t a → (version : IpVersion) (part : List ℕ) → part_of version a.address ≡ Some part
    → IsLowestFree version others old.config.pools part
lowest_address old new others t a l beside version part has =
    let entry = same_entry old.sessions new.sessions others l.others t l.teid a l.session beside l.sessions l.beside l.before in
    let same = same_others old.sessions new.sessions others l.others t l.teid a l.session beside l.sessions l.beside l.before in
    subst (λ k. IsLowestFree version k old.config.pools part) same (l.lowest version part (ap (λ (s : Session). part_of version s.address) (sym entry.1) ∙ has))

pub lowest_identity : (old new : Node) (others : FiniteMap Bearer) (t : ℕ) (a : Bearer) → MakesLowestBearer old new → ComesBeside old.bearers new.bearers others t a
    → (identity : ℕ) × (a.identity ≡ Some identity) × IsLowestUnused others a.session identity
lowest_identity old new others t a l beside =
    let entry = same_entry old.bearers new.bearers others l.others t l.teid a l.bearer beside l.bearers l.beside l.before in
    let same = same_others old.bearers new.bearers others l.others t l.teid a l.bearer beside l.bearers l.beside l.before in (
      l.identity,
      ap (λ (b : Bearer). b.identity) entry.1 ∙ l.has,
      subst (λ k. IsLowestUnused others k l.identity) (sym (ap (λ (b : Bearer). b.session) entry.1))
          (subst (λ k. IsLowestUnused k l.bearer.session l.identity) same l.lowest),
    )

-- ---- the next TEIDs are one

pub one_drawn : (a b : Node) → a.drawn ≡ drawn_up_to a.counter (length a.drawn) → b.drawn ≡ drawn_up_to b.counter (length b.drawn) → a.counter ≡ b.counter
    → length a.drawn ≡ length b.drawn → a.drawn ≡ b.drawn
one_drawn a b a_is b_is counter draws = cc

-- ---- the next free number is one

pub one_next : (start : ℕ) (ws : List (Waiting Purpose)) (a b : ℕ) → IsNextFree start ws a → IsNextFree start ws b → a ≡ b
one_next start ws a b m n = ⊎_elim
    (λ same. m.place ∙ (ap (λ k. (start + k) % numbers) same ∙ sym n.place))
    (λ apart. ⊎_elim
    (λ less. absurd (not_taken a m.free (ap (λ k. is_pending k ws) m.place ∙ n.taken m.passed less)))
    (λ more. absurd (not_taken b n.free (ap (λ k. is_pending k ws) n.place ∙ m.taken n.passed more)))
    apart)
    (cases_order m.passed n.passed)
  where
    not_taken : (k : ℕ) → is_pending k ws ≡ false → is_pending k ws ≡ true → ⊥
    not_taken k free taken = cc
