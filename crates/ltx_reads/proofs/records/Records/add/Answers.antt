use Rattle.std.proofs.Common.{◌≡◌, ◌+◌, ℕ, List, [], ◌∷◌, ◌++◌, sym, ap, ◌∙◌, subst, arith, rules}
use Rattle.ltx_reads.specs.Stamped.{Stamped}
use Rattle.ltx_reads.specs.Sites.{MayBeNoted, AreIndexed}
use Rattle.ltx_reads.proofs.Indexed.{indexed_stray, indexed_more, noted_may}
use Rattle.ltx_reads.proofs.records.Records.add.Goals as goal

pub invariant_of-self : goal.invariant_of-self
invariant_of-self c =
    let next : c.in-Some.next ≡ c.self.inside.next + 1 = omega arith in
    let stamp : c.in_ok-entry.entry.stamp ≡ c.self.inside.next = ap (λ (e : Stamped). e.stamp) c.in_ok-entry.ensures in
    subst (λ n. AreIndexed c.self.inside.kept.items n c.note.new.self) (sym next)
    (indexed_stray c.self.inside.kept.items c.self.inside.next c.self.inside.sites c.note.new.self c.self.invariant (subst (λ s. MayBeNoted s c.self.inside.sites c.note.new.self) stamp c.in_err-note.ensures.err))

pub invariant_of-self-in_err-push : goal.invariant_of-self-in_err-push
invariant_of-self-in_err-push c =
    let next : c.in-Some.next ≡ c.self.inside.next + 1 = omega arith in
    let stamp : c.in_ok-entry.entry.stamp ≡ c.self.inside.next = ap (λ (e : Stamped). e.stamp) c.in_ok-entry.ensures in
    let same : c.push.new.self.items ≡ c.self.inside.kept.items = search rules in
    let may = noted_may c.in_ok-entry.entry c.self.inside.sites c.note.new.self c.in_ok-note.ensures.noted in
    subst (λ n. AreIndexed c.push.new.self.items n c.note.new.self) (sym next)
    (subst (λ l. AreIndexed l (c.self.inside.next + 1) c.note.new.self) (sym same)
    (indexed_stray c.self.inside.kept.items c.self.inside.next c.self.inside.sites c.note.new.self c.self.invariant (subst (λ s. MayBeNoted s c.self.inside.sites c.note.new.self) stamp may)))

pub invariant_of-self-2 : goal.invariant_of-self-2
invariant_of-self-2 c =
    let next : c.in-Some.next ≡ c.self.inside.next + 1 = omega arith in
    let stamp : c.in_ok-entry.entry.stamp ≡ c.self.inside.next = ap (λ (e : Stamped). e.stamp) c.in_ok-entry.ensures in
    let pushed : c.push.new.self.items ≡ c.self.inside.kept.items ++ c.in_ok-entry.entry ∷ [] = search rules in
    subst (λ n. AreIndexed c.push.new.self.items n c.note.new.self) (ap (λ n. n + 1) stamp ∙ sym next)
    (subst (λ l. AreIndexed l (c.in_ok-entry.entry.stamp + 1) c.note.new.self) (sym pushed)
    (indexed_more c.self.inside.kept.items c.in_ok-entry.entry c.self.inside.sites c.note.new.self (subst (λ n. AreIndexed c.self.inside.kept.items n c.self.inside.sites) (sym stamp) c.self.invariant) c.in_ok-note.ensures.noted))
