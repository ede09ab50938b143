mod Apart
mod Found
mod Inserted
mod Maximal
