-- The areas that an item of a kind does not enter: they stay, byte for byte.
use Rattle.std.specs.Prelude.{◌≡◌}
use Rattle.reader.specs.declared.ItemKind.{ItemKind}
use Rattle.reader.specs.declared.ItemKind.TheVariants.{Name, Part, Range, Member, Union, UnionMember, Leaf, Joined, Requirement, Constraint}
use Rattle.marks.specs.declared.MarksMut.{MarksMut}
use Rattle.unions.specs.declared.MembersMut.{MembersMut}
use Rattle.tables.specs.declared.TablesMut.{TablesMut}

abbrev pub Stay : ItemKind → (m m' : MarksMut) (u u' : MembersMut) (t t' : TablesMut) → Type 0
Stay Name m m' u u' t t' = (m' ≡ m) × (u' ≡ u)
Stay Part m m' u u' t t' = (m' ≡ m) × (u' ≡ u)
Stay Range m m' u u' t t' = u' ≡ u
Stay Member m m' u u' t t' = (u' ≡ u) × (t' ≡ t)
Stay Union m m' u u' t t' = (m' ≡ m) × (u' ≡ u) × (t'.area.now ≡ t.area.now)
Stay UnionMember m m' u u' t t' = (m' ≡ m) × (t' ≡ t)
Stay Leaf m m' u u' t t' = (m' ≡ m) × (u' ≡ u)
Stay Joined m m' u u' t t' = (m' ≡ m) × (u' ≡ u)
Stay Requirement m m' u u' t t' = (m' ≡ m) × (u' ≡ u)
Stay Constraint m m' u u' t t' = (m' ≡ m) × (u' ≡ u)
